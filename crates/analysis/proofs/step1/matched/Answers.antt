use Rattle.plan.specs.Words.{words_of, edges_of}
use Rattle.analysis.proofs.Matching.{end_low}
use mathlib.Core.Path.{sym, ap, ap₂, ◌∙◌}
use native.Mathlib.Omega.{arith}
use Prim.Native.Nat.{ℕ}
use lib.Dec.{eqb}
use Rattle.division.specs.Analysis.{loose, matches}
use Rattle.reasons.specs.Words.{packed}
use Rattle.reasons.specs.Verdicts.{Going, ran}
use Rattle.noting.specs.Words.{state_of}
use Rattle.analysis.specs.Placed.{words, plan_in, view_in}
use Rattle.analysis.proofs.Matching.{matched_not, matched_none, matched_some, end_some, end_nothing}
use Rattle.reasons.proofs.Back.{bool_bit}
use Rattle.analysis.proofs.step1.matched.Goals as goal

pub walled_match-h-requires : goal.walled_match-h-requires
walled_match-h-requires c = (c.requires.0, omega (arith, c.requires.1, end_low c.args.noted.now (edges_of (words_of c.args.plan.now)), c.requires.2), c.requires.3)

pub right_region-requires : goal.right_region-requires
right_region-requires c = omega (arith, c.requires.1, end_low c.args.noted.now (edges_of (words_of c.args.plan.now)), c.requires.2)

pub returns-then-h-end : goal.returns-then-h-end
unfolding loose matches
returns-then-h-end c =
    let x = words (words_of c.args.plan.now) c.args.edges.now c.args.noted.now c.args.view.now in
    let h = end_some (plan_in x) (state_of c.args.noted.now) (view_in x) c.args.g c.args.end c.requires.2 c.walled_match-h.result c.walled_match-h.ensures c.if-h-end.true in
    ap (ran Going) c.put.ensures
    ∙ matched_some _ _ _ _ _ _ _ _ _ (sym c.loose.ensures ∙ c.if-loose.true) h.0 h.1 (ap₂ eqb c.left_region.ensures c.right_region.ensures) c.edge_place.ensures
    (c.packed.ensures ∙ ap (λ (i : ℕ). packed 2 c.walled_match-h.result c.args.g i 0) (c.from.ensures ∙ bool_bit _))

pub returns-else-h-end : goal.returns-else-h-end
unfolding loose matches
returns-else-h-end c =
    let x = words (words_of c.args.plan.now) c.args.edges.now c.args.noted.now c.args.view.now in
    matched_none _ _ _ _ _ (sym c.loose.ensures ∙ c.if-loose.true) (end_nothing (plan_in x) (state_of c.args.noted.now) (view_in x) c.args.g c.args.end c.requires.2 c.walled_match-h.result c.walled_match-h.ensures c.if-h-end.false)

pub returns-else-loose : goal.returns-else-loose
unfolding loose
returns-else-loose c = matched_not _ _ _ _ _ (sym c.loose.ensures ∙ c.if-loose.false)
