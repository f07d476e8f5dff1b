use mathlib.Core.Path.{◌≡◌}
use Rattle.division.specs.Regions.{lowest}
use Rattle.noting.specs.Words.{crosses}
use Rattle.noting.proofs.note.crossed.Given as goal

abbrev pub invariant-loop-v : goal.invariant-loop-v
invariant-loop-v l = (lowest (crosses l.noted) l.v ≡ l.v)
