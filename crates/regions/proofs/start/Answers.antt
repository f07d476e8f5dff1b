use Rattle.std.proofs.Common.{arith, refl}
use Rattle.graph.specs.Lists.{put}
use Rattle.base.proofs.Loop.{iter_zero, iter_more, iter_done}
use Rattle.regions.proofs.start.Goals as goal

pub loop-i-init : goal.loop-i-init
loop-i-init c = iter_zero _ _

pub loop-i-preserved : goal.loop-i-preserved
unfolding put
loop-i-preserved c = iter_more _ _ _ _ _ c.loop-i.invariant refl

pub returns : goal.returns
returns c = iter_done _ _ _ _ _ c.loop-i.invariant (omega arith) (omega arith)
