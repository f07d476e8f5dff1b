use mathlib.Core.Path.{sym, subst}
use native.Mathlib.Omega.{arith}
use Rattle.graph.proofs.Keep.{drained_ok, ok_up, fine_up}
use Rattle.graph.specs.Bounds.{Ok}
use Rattle.base.proofs.Loop.{iter_zero, iter_more, iter_done}
use Rattle.walks.proofs.search.drain.Goals as goal

pub loop-h-init : goal.loop-h-init
loop-h-init c = iter_zero _ _

pub pop-n-requires : goal.pop-n-requires
pop-n-requires c =
    let p = c.requires in
    (fine_up p.0.vertices (omega arith) p.0, p.1, subst (Ok 64) (sym c.loop-h.invariant) (ok_up p.0.vertices (drained_ok _ _ _ _ _ p.0 p.2)))

pub loop-h-preserved : goal.loop-h-preserved
loop-h-preserved c = iter_more _ _ _ _ _ c.loop-h.invariant c.pop-n.ensures

pub returns : goal.returns
returns c = iter_done _ _ _ _ _ c.loop-h.invariant (omega arith) (omega arith)
