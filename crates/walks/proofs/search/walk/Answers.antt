use mathlib.Core.Path.{sym, subst}
use native.Mathlib.Omega.{arith}
use Rattle.graph.proofs.Keep.{walk_ok, fine_less}
use Rattle.graph.specs.Bounds.{Ok}
use Rattle.base.proofs.Loop.{iter_zero, iter_more, iter_done}
use Rattle.walks.proofs.search.walk.Goals as goal

pub loop-g-init : goal.loop-g-init
loop-g-init c = iter_zero _ _

pub visit-n-requires : goal.visit-n-requires
visit-n-requires c =
    let p = c.requires in
    (omega arith, omega arith, p.0.within _ (omega arith), subst (Ok 64) (sym c.loop-g.invariant) (walk_ok 64 _ _ _ _ (fine_less p.0 (omega arith)) p.2 p.3))

pub loop-g-preserved : goal.loop-g-preserved
loop-g-preserved c = iter_more _ _ _ _ _ c.loop-g.invariant c.visit-n.ensures

pub returns : goal.returns
returns c = iter_done _ _ _ _ _ c.loop-g.invariant (omega arith) (omega arith)
