use mathlib.Core.Path.{ap₂}
use mathlib.Core.Bool.{Bool}
use Rattle.regions.specs.Buckets.{Marks}
use Rattle.views.specs.Compute.{bounds_from}
use Rattle.views.proofs.compute.bound.Goals as goal

pub returns : goal.returns
unfolding bounds_from
returns c = ap₂ (λ (b : Bool) (x : Marks). record { known = b; bounds = x.bounds; holders = x.holders }) c.region_bounds-known.ensures.0 c.region_bounds-known.ensures.1
