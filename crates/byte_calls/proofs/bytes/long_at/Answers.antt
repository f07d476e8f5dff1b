use native.Mathlib.Omega.{arith}
use Rattle.base.specs.Bytes.{long_at}
use Rattle.byte_calls.proofs.bytes.long_at.Goals as goal

pub returns : goal.returns
unfolding long_at
returns c = omega (arith, c.from-low.ensures, c.from-high.ensures)
