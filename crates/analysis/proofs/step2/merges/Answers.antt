use Rattle.noting.specs.Words.{lits_of}
use mathlib.Core.Path.{sym, ap, ◌∙◌}
use Rattle.reasons.specs.Verdicts.{Going, ran}
use Rattle.division.specs.Analysis.{loose}
use Rattle.analysis.proofs.Bounds.{merges_not, merges_fit, merges_some}
use Rattle.analysis.proofs.step2.merges.Goals as goal

pub returns-then-too_large_if_merged : goal.returns-then-too_large_if_merged
unfolding loose
returns-then-too_large_if_merged c =
    ap (ran Going) c.put.ensures
    ∙ merges_some _ _ _ _ _ _ _ _ _ _ _ (sym c.loose.ensures ∙ c.if-loose.true) c.left_region-u.ensures c.right_region-v.ensures (sym c.too_large_if_merged.ensures ∙ c.if-too_large_if_merged.true) c.tighter_upper_bound-vertex.ensures
    (ap lits_of (sym c.upper_bound_lit-lit.ensures)) c.edge_place.ensures c.packed.ensures

pub returns-else-too_large_if_merged : goal.returns-else-too_large_if_merged
unfolding loose
returns-else-too_large_if_merged c = merges_fit _ _ _ _ _ _ _ (sym c.loose.ensures ∙ c.if-loose.true) c.left_region-u.ensures c.right_region-v.ensures (sym c.too_large_if_merged.ensures ∙ c.if-too_large_if_merged.false)

pub returns-else-loose : goal.returns-else-loose
unfolding loose
returns-else-loose c = merges_not _ _ _ _ _ (sym c.loose.ensures ∙ c.if-loose.false)
