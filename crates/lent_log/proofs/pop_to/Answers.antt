use Rattle.std.proofs.Common.{ap, arith}
use Rattle.base.proofs.Loop.{iter_zero, iter_more, iter_done}
use Rattle.lent_log.specs.Records.{Popping, popped_to}
use Rattle.lent_log.proofs.pop_to.Goals as goal

pub loop-init : goal.loop-init
loop-init c = (omega arith, iter_done _ _ 0 _ _ (iter_zero _ _) (omega arith) (omega arith))

pub loop-preserved : goal.loop-preserved
loop-preserved c =
    (omega arith, iter_done _ _ _ _ _ (iter_more _ _ _ _ _ c.loop.invariant.1 (ap (λ (x : Popping). x.cursor) c.pop.ensures)) (omega arith) (omega arith))

pub returns : goal.returns
unfolding popped_to
returns c = iter_done _ _ _ _ _ c.loop.invariant.1 (omega arith) (omega arith)
