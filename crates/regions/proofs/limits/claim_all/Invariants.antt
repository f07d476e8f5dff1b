use mathlib.Core.Path.{◌≡◌}
use Rattle.regions.specs.Buckets.{marks, claim}
use Rattle.graph.specs.Lists.{number_of}
use Rattle.base.specs.Iter.{iter}
use Rattle.regions.proofs.limits.claim_all.Given as goal

abbrev pub invariant-loop-v : goal.invariant-loop-v
invariant-loop-v l = (marks l.bounds l.holders ≡ iter (claim l.upper l.labels (number_of l.words l.first)) l.v (marks l.initial.bounds l.initial.holders))
