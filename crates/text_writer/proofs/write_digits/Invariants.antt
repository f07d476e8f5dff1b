use mathlib.Core.Path.{◌≡◌}
use Prim.Native.Nat.{◌+◌}
use lib.ListN.{length}
use Rattle.text_writer.specs.Digits.{digits}
use Rattle.text_writer.proofs.Putting.{Backward}
use Rattle.text_writer.proofs.write_digits.Given as goal

abbrev pub invariant-loop-p : goal.invariant-loop-p
invariant-loop-p l = (l.end ≡ l.at + length (digits l.n)) × Backward l.n l.initial.buf l.at l.buf l.p l.quotient
