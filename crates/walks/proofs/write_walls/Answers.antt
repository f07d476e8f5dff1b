use native.Mathlib.Omega.{arith}
use Rattle.walks.proofs.Walk.{walls_done}
use Rattle.walks.specs.Walk.{wall_at}
use Rattle.base.proofs.Loop.{iter_zero, iter_more}
use Rattle.walks.proofs.write_walls.Goals as goal

pub loop-g-init : goal.loop-g-init
loop-g-init c = iter_zero _ _

pub write_wall-n-requires : goal.write_wall-n-requires
write_wall-n-requires c = let p = c.requires in (omega arith, omega arith, p.0.within _ (omega arith))

pub loop-g-preserved : goal.loop-g-preserved
unfolding wall_at
loop-g-preserved c = iter_more _ _ _ _ _ c.loop-g.invariant c.write_wall-n.ensures

pub returns : goal.returns
returns c = walls_done _ _ _ _ _ _ _ _ c.loop-g.invariant (omega arith) (omega arith)
