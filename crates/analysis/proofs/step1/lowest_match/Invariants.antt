use mathlib.Core.Path.{◌≡◌}
use mathlib.Core.List.{[]}
use Rattle.division.specs.Regions.{lowest}
use Rattle.division.specs.Analysis.{matches}
use Rattle.analysis.specs.Placed.{words, on}
use Rattle.analysis.proofs.step1.lowest_match.Given as goal

abbrev pub invariant-loop-h : goal.invariant-loop-h
invariant-loop-h l = lowest (on matches (words [] l.edges l.noted l.view) l.g) l.h ≡ l.h
