use native.Mathlib.Omega.{arith}
use Rattle.walks.proofs.Walk.{order_done, pushed_as}
use Rattle.base.proofs.Loop.{iter_zero, iter_more}
use Rattle.walks.proofs.write_order.Goals as goal

pub loop-i-init : goal.loop-i-init
loop-i-init c = iter_zero _ _

pub loop-i-preserved : goal.loop-i-preserved
loop-i-preserved c = iter_more _ _ _ _ _ c.loop-i.invariant (pushed_as _ _ _ _ c.from.ensures c.push-n.ensures)

pub returns : goal.returns
returns c = order_done _ _ _ _ c.loop-i.invariant (omega arith) (omega arith)
