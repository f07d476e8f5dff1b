use Rattle.std.proofs.Common.{arith}
use Rattle.graph.proofs.Lists.{put_as}
use Rattle.base.proofs.Loop.{iter_zero, iter_more, iter_done}
use Rattle.regions.proofs.merge.Goals as goal

pub loop-i-init : goal.loop-i-init
loop-i-init c = iter_zero _ _

pub loop-i-preserved : goal.loop-i-preserved
loop-i-preserved c = iter_more _ _ _ _ _ c.loop-i.invariant (put_as _ _ _ _ c.rename.ensures)

pub returns : goal.returns
returns c = iter_done _ _ _ _ _ c.loop-i.invariant (omega arith) (omega arith)
