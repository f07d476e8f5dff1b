use Rattle.std.proofs.Common.{arith, ap, set}
use Rattle.base.proofs.Loop.{iter_zero, iter_more, iter_done}
use Rattle.lent_log.specs.Records.{loaded}
use Rattle.lent_log.proofs.Bounds.{least_min}
use Rattle.lent_log.proofs.load.Goals as goal

pub loop-i-init : goal.loop-i-init
loop-i-init c = iter_zero _ _

pub loop-i-preserved : goal.loop-i-preserved
loop-i-preserved c = iter_more _ _ _ _ _ c.loop-i.invariant (ap (set c.loop-i.words c.loop-i.i) c.word_of.ensures)

pub returns : goal.returns
unfolding loaded
returns c = iter_done _ _ _ _ _ c.loop-i.invariant (omega (arith, least_min)) (omega (arith, least_min))
