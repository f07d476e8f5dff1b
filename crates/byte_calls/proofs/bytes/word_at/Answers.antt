use native.Mathlib.Omega.{arith}
use Rattle.base.specs.Bytes.{word_at}
use Rattle.byte_calls.proofs.bytes.word_at.Goals as goal

pub returns : goal.returns
unfolding word_at
returns c = omega (arith, c.from_le_bytes.ensures)
