use mathlib.Core.Path.{◌≡◌}
use lib.ListN.{get_or}
use Rattle.pages.specs.Lines.{num_regions}
use Rattle.pages.proofs.count_regions.Given as goal

abbrev pub invariant-loop-r : goal.invariant-loop-r
invariant-loop-r l = (l.count ≡ num_regions (λ v. get_or l.labels v 0) l.r)
