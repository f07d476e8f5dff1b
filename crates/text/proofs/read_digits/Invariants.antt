use Rattle.std.proofs.Common.{◌≡◌, ◌-◌, ◌<◌, ◌^◌, drop}
use Rattle.text.specs.Number.{digits_field}
use Rattle.text.proofs.read_digits.Given as goal

abbrev pub invariant-loop-i : goal.invariant-loop-i
invariant-loop-i l = (l.v < 10 ^ (l.i - l.from)) × (digits_field l.minus l.v (drop l.i l.s) ≡ digits_field l.minus 0 (drop l.from l.s))
