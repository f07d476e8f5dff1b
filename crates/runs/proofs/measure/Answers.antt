use mathlib.Core.Path.{sym, subst}
use native.Mathlib.Omega.{arith}
use Rattle.runs.specs.Small.{Small}
use Rattle.runs.proofs.Small.{rounds_of_small}
use Rattle.runs.proofs.Eased.{fine_64, rounds_none, rounds_more, rounds_done, rounds_still}
use Rattle.runs.proofs.measure.Goals as goal

pub store-requires : goal.store-requires
store-requires c = let p = c.requires in omega (arith, p.0.vertices, p.2)

pub loop-init : goal.loop-init
loop-init c = let p = c.requires in rounds_none _ _ _ _ _ p.3 c.store.ensures

pub relax_all-requires : goal.relax_all-requires
relax_all-requires c =
    let p = c.requires in
    let l = c.loop in
    (fine_64 _ _ _ p.0, p.1, subst (Small 900000) (sym l.invariant) (rounds_of_small _ _ _ _ p.0.fits (omega (arith, p.0.vertices))))

pub loop-preserved : goal.loop-preserved
loop-preserved c = rounds_more _ _ _ _ _ _ c.loop.invariant c.relax_all.ensures.0

pub returns-then-not-relax_all : goal.returns-then-not-relax_all
returns-then-not-relax_all c =
    rounds_still _ _ _ _ _ _ _ c.loop.invariant c.relax_all.ensures.0 (c.relax_all.ensures.1 c.if-not-relax_all.true)
    (omega arith)

pub returns : goal.returns
returns c = rounds_done _ _ _ _ _ _ c.loop.invariant (omega arith) (omega arith)
