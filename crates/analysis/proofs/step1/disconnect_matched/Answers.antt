use mathlib.Core.Path.{ap, refl}
use Rattle.analysis.specs.First.{disconnected_end}
use Prim.Native.Nat.{ℕ}
use lib.Dec.{eqb}
use lib.ListN.{get_or}
use Rattle.division.specs.Regions.{lowest}
use native.Mathlib.Omega.{arith}
use mathlib.Core.Path.{sym, ◌∙◌}
use Rattle.noting.specs.Words.{state_of}
use Rattle.analysis.specs.Placed.{words, plan_in, view_in}
use Rattle.analysis.proofs.Pass.{ran_none, ran_more, ran_length}
use Rattle.analysis.proofs.Matching.{end_low, matched_follows, ran_nothing, ran_decided}
use Rattle.plan.specs.Words.{words_of}
use Rattle.analysis.proofs.step1.disconnect_matched.Goals as goal

pub returns-then-end-eq0 : goal.returns-then-end-eq0
returns-then-end-eq0 c =
    let x = words (words_of c.args.plan.now) c.args.edges.now c.args.noted.now c.args.view.now in
    ran_nothing (plan_in x) (state_of x.noted) (view_in x) (sym c.if-end-eq0.true ∙ (c.disconnected_end-end.ensures ∙ ap (disconnected_end x.noted) c.num_edges-n.ensures)) _ _

pub returns-then-first_undecided-n : goal.returns-then-first_undecided-n
returns-then-first_undecided-n c =
    let x = words (words_of c.args.plan.now) c.args.edges.now c.args.noted.now c.args.view.now in
    let k = c.num_edges-n.ensures in
    ran_decided (plan_in x) (state_of x.noted) (view_in x) (ap (lowest (λ (h : ℕ). eqb (get_or x.noted h 0) 0)) (sym k) ∙ (sym c.first_undecided.ensures ∙ (c.if-first_undecided-n.true ∙ k))) _

pub lowest_walls-requires : goal.lowest_walls-requires
lowest_walls-requires c = (omega (arith, end_low c.args.noted.now c.num_edges-n.result, c.disconnected_end-end.ensures), refl)

pub loop-g-init : goal.loop-g-init
loop-g-init c = ran_none _ _

pub matched-requires : goal.matched-requires
matched-requires c = (omega arith, omega arith, c.disconnected_end-end.ensures ∙ ap (disconnected_end c.args.noted.now) c.num_edges-n.ensures, c.lowest_walls.ensures)

pub loop-g-preserved : goal.loop-g-preserved
loop-g-preserved c = ran_more _ (matched_follows _ _ _) _ _ _ _ _ c.loop-g.invariant c.matched.ensures

pub shape_of-proposals : goal.shape_of-proposals
shape_of-proposals c = ran_length _ _ _ _ c.loop-g.invariant
