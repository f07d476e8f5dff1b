use mathlib.Core.Path.{◌≡◌}
use Rattle.regions.specs.Labels.{alone}
use Rattle.regions.proofs.start.Given as goal

abbrev pub invariant-loop-i : goal.invariant-loop-i
invariant-loop-i l = l.labels ≡ alone l.i l.initial.labels
