use native.Mathlib.Omega.{arith}
use Rattle.walks.proofs.Walk.{border_done}
use Rattle.graph.proofs.Keep.{fine_up}
use Rattle.walks.specs.Walk.{side_at}
use Rattle.base.proofs.Loop.{iter_zero, iter_more}
use Rattle.walks.proofs.write_border.Goals as goal

pub loop-p-init : goal.loop-p-init
loop-p-init c = iter_zero _ _

pub write_side-n-requires : goal.write_side-n-requires
write_side-n-requires c = let p = c.requires in (omega (arith, p.0.vertices), fine_up p.0.vertices (omega arith) p.0, p.1)

pub loop-p-preserved : goal.loop-p-preserved
unfolding side_at
loop-p-preserved c = iter_more _ _ _ _ _ c.loop-p.invariant c.write_side-n.ensures

pub returns : goal.returns
returns c = border_done _ _ _ _ _ _ _ _ c.loop-p.invariant (omega arith) (omega arith)
