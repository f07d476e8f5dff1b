use mathlib.Core.Path.{◌≡◌}
use Rattle.regions.specs.Labels.{merged}
use Rattle.regions.proofs.merge.Given as goal

abbrev pub invariant-loop-i : goal.invariant-loop-i
invariant-loop-i l = l.labels ≡ merged l.i l.lo l.hi l.initial.labels
