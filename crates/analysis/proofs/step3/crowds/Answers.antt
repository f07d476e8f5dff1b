use mathlib.Core.Path.{refl, sym, ◌∙◌}
use native.Mathlib.Omega.{arith}
use mathlib.Core.List.{[]}
use Rattle.division.specs.Views.{cells_of}
use Rattle.views.proofs.Separated.{separated_after}
use Rattle.views.proofs.Sums.{needed_most}
use Rattle.analysis.specs.Placed.{edge_place_of, dom_place_of, placed}
use Rattle.analysis.proofs.Meeting.{crowds_other, crowds_fit, crowds_over, crowds_light}
use Rattle.plan.specs.Words.{words_of}
use Rattle.analysis.proofs.step3.crowds.Goals as goal

pub returns-then-sum-weight : goal.returns-then-sum-weight
returns-then-sum-weight c =
    let n = needed_most c.args.noted.now c.args.view.now (placed (words_of c.args.plan.now) []) c.args.r c.requires.0 in
    λ a. crowds_light _ _ _ _ a (omega (arith, n, c.requires.1))

pub returns-then-weight-required_weight : goal.returns-then-weight-required_weight
unfolding cells_of
returns-then-weight-required_weight c =
    let n = separated_after (words_of c.args.plan.now) [] c.requires.0 c.args.noted.now c.args.view.now _ refl c.args.r (edge_place_of (words_of c.args.plan.now)) (dom_place_of (words_of c.args.plan.now)) _ _ c.separate_ranges-count.ensures in
    λ a. crowds_over _ _ _ _ a _ (sym c.potential_region.ensures ∙ c.if-potential_region-r.true) (c.required_weight.ensures ∙ n.1) (omega arith)

pub returns-else-weight-required_weight : goal.returns-else-weight-required_weight
unfolding cells_of
returns-else-weight-required_weight c =
    let n = separated_after (words_of c.args.plan.now) [] c.requires.0 c.args.noted.now c.args.view.now _ refl c.args.r (edge_place_of (words_of c.args.plan.now)) (dom_place_of (words_of c.args.plan.now)) _ _ c.separate_ranges-count.ensures in
    λ a. crowds_fit _ _ _ _ a _ (sym c.potential_region.ensures ∙ c.if-potential_region-r.true) (c.required_weight.ensures ∙ n.1) (omega arith)

pub returns-else-potential_region-r : goal.returns-else-potential_region-r
returns-else-potential_region-r c = λ a. crowds_other _ _ _ _ a (λ e. c.if-potential_region-r.false (c.potential_region.ensures ∙ e))
