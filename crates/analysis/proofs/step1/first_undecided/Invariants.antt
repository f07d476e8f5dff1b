use mathlib.Core.Path.{◌≡◌}
use lib.Dec.{eqb}
use lib.ListN.{get_or}
use Rattle.division.specs.Regions.{lowest}
use Rattle.analysis.proofs.step1.first_undecided.Given as goal

abbrev pub invariant-loop-h : goal.invariant-loop-h
invariant-loop-h l = lowest (λ i. eqb (get_or l.noted i 0) 0) l.h ≡ l.h
