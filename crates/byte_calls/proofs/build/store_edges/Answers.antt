use Rattle.base.proofs.Loop.{iter_zero, iter_more, iter_done}
use native.Mathlib.Omega.{arith}
use Rattle.byte_calls.specs.Stores.{put_edges}
use Rattle.byte_calls.proofs.build.store_edges.Goals as goal

pub loop-g-init : goal.loop-g-init
loop-g-init c = iter_zero _ _

pub loop-g-preserved : goal.loop-g-preserved
loop-g-preserved c = iter_more _ _ _ _ _ c.loop-g.invariant c.store_ends.ensures

pub returns : goal.returns
unfolding put_edges
returns c = iter_done _ _ _ _ _ c.loop-g.invariant (omega arith) (omega arith)
