use Rattle.std.proofs.Common.{arith, refl}
use Rattle.base.specs.Lists.{filled}
use Rattle.base.proofs.Loop.{iter_zero, iter_more, iter_done}
use Rattle.noting.proofs.fill.Goals as goal

pub loop-v-init : goal.loop-v-init
unfolding filled
loop-v-init c = iter_zero _ _

pub loop-v-preserved : goal.loop-v-preserved
unfolding filled
loop-v-preserved c = iter_more _ _ _ _ _ c.loop-v.invariant refl

pub returns : goal.returns
unfolding filled
returns c = iter_done _ _ _ _ _ c.loop-v.invariant (omega arith) (omega arith)
