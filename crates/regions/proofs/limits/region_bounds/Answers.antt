use mathlib.Core.Path.{sym, ◌∙◌}
use Rattle.regions.proofs.Buckets.{labels_known}
use Rattle.regions.proofs.limits.region_bounds.Goals as goal

pub claim_all-requires : goal.claim_all-requires
claim_all-requires c = labels_known _ _ _ _ (sym c.labels_below.ensures ∙ c.if-labels_below.true)
