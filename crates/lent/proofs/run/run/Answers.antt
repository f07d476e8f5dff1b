use Rattle.std.proofs.Common.{◌∙◌, refl}
use mir.Facts.{to_z-of_z}
use Rattle.base.proofs.Numbered.{number_not_0}
use Rattle.plan.specs.Words.{words_of}
use Rattle.lent.specs.Lent.{state_of}
use Rattle.lent.proofs.Parting.{of_parts}
use Rattle.lent.proofs.Fetching.{run_refused, run_found}
use Rattle.lent.proofs.run.run.Goals as goal

pub returns-in-Some : goal.returns-in-Some
returns-in-Some c =
    let a = c.args in
    of_parts _ (λ rs last len b. run_refused (state_of (words_of a.plan.now) a.edges a.noted.now rs last len b) _ _ _ _ (c.number.ensures ∙ c.in-Some.ensures) _ _
    (number_not_0 c.in-Some.refusal _ c.number.ensures))

pub returns : goal.returns
returns c =
    let state = state_of (words_of c.args.plan.now) c.args.edges c.args.noted.now in
    of_parts _ (λ rs last len b. run_found (state rs last len b) _ _ _ _ c.in_default.ensures _ _ _ _ _ _ _ _ _ _ _ refl
    (to_z-of_z c.ranges.from) (to_z-of_z c.ranges.to)
    c.num_edges-num_edges.ensures
    c.num_vertices-num_vertices.ensures
    c.vertex_given-p.ensures
    c.vertex_given-q.ensures c.best_run-listed.ensures c.answer_of.ensures)
