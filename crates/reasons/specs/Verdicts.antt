-- What a pass of the analysis found, and what it leaves.
use Rattle.std.specs.Prelude.{List, [], ℕ, Result, Ok, Err}
use Rattle.division.specs.Conflicts.{disconnected_inside, crossing, over, under, crowded, apart}
use Rattle.division.specs.Analysis as abstract
use Rattle.reasons.specs.declared.Stop.{Stop}
use Rattle.reasons.specs.declared.Stop.TheVariants.{DisconnectedInside, Over, Under, Crowded, Apart, Crossing, ZeroSize}
use Rattle.reasons.specs.Words.{stored}

-- where an analysis stands, as the code says it
abbrev pub Verdict : Type 0
Verdict = Result (Unit {0}) Stop

-- no verdict yet
abbrev pub Going : Verdict
Going = Ok tt

-- the code's verdict; the vertices of separate ranges follow from the region
unfoldable pub verdict_of : abstract.Verdict → Verdict
verdict_of abstract.going = Going
verdict_of (abstract.conflict (disconnected_inside g)) = Err (DisconnectedInside g)
verdict_of (abstract.conflict (over v)) = Err (Over v)
verdict_of (abstract.conflict (under v)) = Err (Under v)
verdict_of (abstract.conflict (crowded r ps)) = Err (Crowded r)
verdict_of (abstract.conflict (apart a b)) = Err (Apart a b)
verdict_of (abstract.conflict (crossing v)) = Err (Crossing v)
verdict_of abstract.zero_size = Err ZeroSize

-- nothing found, nothing proposed
abbrev pub begun : abstract.Out
begun = record { verdict = abstract.going; props = [] }

-- what a pass leaves: its verdict and the proposals' words
pub record Ran : Type 0 where
  pub verdict : Verdict
  pub words : List ℕ

abbrev pub ran : Verdict → List ℕ → Ran
ran v words = record { verdict = v; words = words }

unfoldable pub ran_of : abstract.Out → List ℕ → Ran
ran_of o words = ran (verdict_of o.verdict) (stored o.props words)
