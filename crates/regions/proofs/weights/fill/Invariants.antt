use mathlib.Core.Path.{◌≡◌}
use Rattle.regions.specs.Buckets.{pour}
use Rattle.graph.specs.Lists.{number_of}
use Rattle.base.specs.Iter.{iter}
use Rattle.regions.proofs.weights.fill.Given as goal

abbrev pub invariant-loop-v : goal.invariant-loop-v
invariant-loop-v l = l.sums ≡ iter (pour l.labels (number_of l.words l.first)) l.v l.initial.sums
