use Rattle.base.proofs.Loop.{iter_zero, iter_done}
use native.Mathlib.Omega.{arith}
use Rattle.byte_calls.specs.Layout.{ends_in}
use Rattle.byte_calls.proofs.Filling.{ends_more}
use Rattle.byte_calls.proofs.decode.read_edges.Goals as goal

pub loop-g-init : goal.loop-g-init
loop-g-init c = iter_zero _ _

pub loop-g-preserved : goal.loop-g-preserved
loop-g-preserved c = ends_more c.args.state.now c.loop-g.g 0 _ _ c.loop-g.invariant

pub returns : goal.returns
unfolding ends_in
returns c = iter_done _ _ _ _ _ c.loop-g.invariant (omega arith) (omega arith)
