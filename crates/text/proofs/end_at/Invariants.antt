use Rattle.std.proofs.Common.{◌≡◌, ◌+◌, ◌≤◌, length, drop}
use Rattle.std.specs.Prelude.{max}
use Rattle.text.specs.Fields.{upto}
use Rattle.text.proofs.end_at.Given as goal

-- The first part holds too where the piece would begin past the end.
abbrev pub invariant-loop-i : goal.invariant-loop-i
invariant-loop-i l = (l.i ≤ max l.at (length l.bytes)) × (l.at + upto l.separator (drop l.at l.bytes) ≡ l.i + upto l.separator (drop l.i l.bytes))
