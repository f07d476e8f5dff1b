use Rattle.std.proofs.Common.{arith}
use Rattle.base.proofs.Loop.{iter_zero, iter_more}
use Rattle.graph.proofs.Keep.{fine_up}
use Rattle.regions.proofs.Labels.{labelled_done}
use Rattle.regions.proofs.label_both.Goals as goal

pub loop-g-init : goal.loop-g-init
loop-g-init c = (iter_zero _ _, iter_zero _ _)

pub bridge-requires : goal.bridge-requires
bridge-requires c =
    let p = c.requires in
    (p.0.vertices, omega (arith, p.0.fits), omega arith, (fine_up p.0.vertices (omega arith) p.0).within _ (omega arith))

pub bridge-requires-in-loop-g : goal.bridge-requires-in-loop-g
bridge-requires-in-loop-g c =
    let p = c.requires in
    (p.0.vertices, omega (arith, p.0.fits), omega arith, (fine_up p.0.vertices (omega arith) p.0).within _ (omega arith))

pub loop-g-preserved : goal.loop-g-preserved
loop-g-preserved c =
    let l = c.loop-g.invariant in
    (iter_more _ _ _ _ _ l.0 c.bridge.ensures, iter_more _ _ _ _ _ l.1 c.bridge-in-loop-g.ensures)

pub returns : goal.returns
returns c =
    let l = c.loop-g.invariant in
    (labelled_done _ _ _ _ _ _ _ c.start.ensures l.0 (omega arith) (omega arith), labelled_done _ _ _ _ _ _ _ c.start-2.ensures l.1 (omega arith) (omega arith))
