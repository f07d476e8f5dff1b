use Rattle.std.proofs.Common.{arith}
use Rattle.base.proofs.Loop.{iter_zero, iter_more}
use Rattle.graph.proofs.Keep.{fine_up}
use Rattle.regions.proofs.Labels.{labelled_done}
use Rattle.regions.proofs.label.Goals as goal

pub loop-g-init : goal.loop-g-init
loop-g-init c = iter_zero _ _

pub bridge-requires : goal.bridge-requires
bridge-requires c = let p = c.requires in (p.0.vertices, omega (arith, p.0.fits), omega arith, (fine_up p.0.vertices (omega arith) p.0).within _ (omega arith))

pub loop-g-preserved : goal.loop-g-preserved
loop-g-preserved c = iter_more _ _ _ _ _ c.loop-g.invariant c.bridge.ensures

pub returns : goal.returns
returns c = labelled_done _ _ _ _ _ _ _ c.start.ensures c.loop-g.invariant (omega arith) (omega arith)
