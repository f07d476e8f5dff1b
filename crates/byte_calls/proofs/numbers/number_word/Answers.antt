use native.Mathlib.Omega.{arith}
use Rattle.base.specs.Bytes.{word_at}
use Rattle.byte_calls.proofs.numbers.number_word.Goals as goal

pub returns : goal.returns
unfolding word_at
returns c = omega (arith, c.from_le_bytes.ensures, c.byte_at.ensures, c.byte_at-2.ensures, c.byte_at-3.ensures, c.byte_at-4.ensures)
