use mathlib.Core.Path.{ap}
use lib.ListN.{set}
use Rattle.base.proofs.Loop.{iter_zero, iter_more, iter_done}
use native.Mathlib.Omega.{arith}
use Rattle.byte_calls.proofs.Numbering.{int_back}
use Rattle.byte_calls.proofs.numbers.read_numbers.Goals as goal

pub loop-i-init : goal.loop-i-init
loop-i-init c = iter_zero _ _

pub loop-i-preserved : goal.loop-i-preserved
loop-i-preserved c = iter_more _ _ _ _ _ c.loop-i.invariant (ap (set c.loop-i.numbers c.loop-i.i) (int_back c.args.bytes.now c.loop-i.i _ c.int_at.ensures))

pub returns : goal.returns
returns c = iter_done _ _ _ _ _ c.loop-i.invariant (omega arith) (omega arith)
