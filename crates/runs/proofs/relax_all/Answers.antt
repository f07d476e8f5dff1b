use mathlib.Core.Path.{refl, sym, subst}
use native.Mathlib.Omega.{arith}
use Rattle.base.proofs.Loop.{iter_zero, iter_more, iter_done}
use Rattle.runs.specs.Rounds.{round}
use Rattle.runs.specs.Small.{Small}
use Rattle.runs.proofs.Small.{small_more, edges_small}
use Rattle.runs.proofs.Eased.{neither}
use Rattle.runs.proofs.relax_all.Goals as goal

pub loop-g-init : goal.loop-g-init
loop-g-init c = (iter_zero _ _, λ _. refl)

pub relax_edge-nearer-requires : goal.relax_edge-nearer-requires
relax_edge-nearer-requires c =
    let p = c.requires in (
      omega (arith, p.0.fits),
      omega arith,
      p.0.within _ (omega arith),
      subst (Small 999999) (sym c.loop-g.invariant.0) (small_more _ _ _ (omega (arith, p.0.fits)) (edges_small _ 900000 _ _ p.2)),
    )

pub loop-g-preserved : goal.loop-g-preserved
loop-g-preserved c =
    let l = c.loop-g in
    let e = c.relax_edge-nearer in (
      iter_more _ _ _ _ _ l.invariant.0 e.ensures.0,
      neither _ _ _ _ _ _ refl l.invariant.1 e.ensures.1,
    )

pub returns : goal.returns
unfolding round
returns c = (iter_done _ _ _ _ _ c.loop-g.invariant.0 (omega arith) (omega arith), c.loop-g.invariant.1)
