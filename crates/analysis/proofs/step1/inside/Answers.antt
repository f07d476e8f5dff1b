use Rattle.sat.specs.Literal.{negate}
use Rattle.reasons.specs.Verdicts.{Going, ran}
use mathlib.Core.Path.{sym, ap, ◌∙◌}
use Rattle.analysis.proofs.Matching.{inside_between, inside_shut, inside_open, inside_else}
use Rattle.analysis.proofs.step1.inside.Goals as goal

pub returns-then-left_region-right_region : goal.returns-then-left_region-right_region
returns-then-left_region-right_region c = inside_between _ _ _ _ _ (λ e. c.if-left_region-right_region.true (c.left_region.ensures ∙ (e ∙ sym c.right_region.ensures)))

pub returns-then-state-eq1 : goal.returns-then-state-eq1
returns-then-state-eq1 c = inside_shut _ _ _ _ _ (sym c.left_region.ensures ∙ (c.if-left_region-right_region.false ∙ c.right_region.ensures)) (sym c.edge_state-state.ensures ∙ c.if-state-eq1.true)

pub returns-then-state-eq0 : goal.returns-then-state-eq0
returns-then-state-eq0 c =
    ap (ran Going) c.put.ensures
    ∙ inside_open _ _ _ _ _ _ _ (sym c.left_region.ensures ∙ (c.if-left_region-right_region.false ∙ c.right_region.ensures)) (sym c.edge_state-state.ensures ∙ c.if-state-eq0.true) (c.negation.ensures ∙ ap negate c.edge_place.ensures) c.packed.ensures

pub returns-else-state-eq0 : goal.returns-else-state-eq0
returns-else-state-eq0 c = inside_else _ _ _ _ _ (sym c.left_region.ensures ∙ (c.if-left_region-right_region.false ∙ c.right_region.ensures)) (λ e. c.if-state-eq1.false (c.edge_state-state.ensures ∙ e)) (λ e. c.if-state-eq0.false (c.edge_state-state.ensures ∙ e))
