use Rattle.std.proofs.Common.{◌∙◌, ap, refl}
use mir.Facts.{to_z-of_z}
use Rattle.base.proofs.Numbered.{number_over_0, number_not_0}
use Rattle.plan.specs.Words.{words_of}
use Rattle.refusals.specs.Refusals.{undo_refusal}
use Rattle.graph_division.specs.Calls.{with_noted, outcome, refuse}
use Rattle.lent.specs.declared.Done.{Done}
use Rattle.lent.specs.Lent.{state_of}
use Rattle.lent.proofs.Lending.{is_undone, undo_refused}
use Rattle.lent.proofs.Parting.{of_parts}
use Rattle.lent.proofs.undo.undo.Goals as goal

pub returns-in-Some-clause-answer_after : goal.returns-in-Some-clause-answer_after
unfolding with_noted refuse
returns-in-Some-clause-answer_after c =
    let a = c.args in
    of_parts _
    (λ rs last len b.
    let s = state_of (words_of a.plan.now) a.edges a.noted.now rs last len b in
    ap (λ (d : Done). outcome (with_noted a.noted.now s) d.cursor d.answer) c.refused.ensures
    ∙ undo_refused s a.cursor _ a.log.now _ (c.in-Some.ensures ∙ ap (undo_refusal (words_of a.plan.now) a.edges a.noted.now a.log.now a.cursor) (to_z-of_z c.ranges.lit))
    (number_not_0 c.in-Some.refusal _ refl))

pub returns-clause-answer_after : goal.returns-clause-answer_after
returns-clause-answer_after c =
    let a = c.args in
    of_parts _
    (λ rs last len b.
    is_undone (state_of (words_of a.plan.now) a.edges a.noted.now rs last len b) a.cursor _ a.log.now _ (c.in_default.ensures ∙ ap (undo_refusal (words_of a.plan.now) a.edges a.noted.now a.log.now a.cursor) (to_z-of_z c.ranges.lit)) _ _ refl c.undo.ensures)
