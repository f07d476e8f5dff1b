use mathlib.Core.Path.{refl, sym, subst}
use native.Mathlib.Omega.{arith}
use Rattle.runs.specs.Small.{Small}
use Rattle.runs.proofs.Small.{small_more, relaxed_small}
use Rattle.runs.proofs.Eased.{both_ways, shut_edge, neither}
use Rattle.runs.proofs.relax_edge.Goals as goal

pub relax-one-requires : goal.relax-one-requires
relax-one-requires c =
    let p = c.requires in (
      p.1,
      omega (arith, c.from-b.ensures, p.2.b),
      omega (arith, c.from-a.ensures, p.2.a),
      small_more _ _ _ (omega arith) p.3,
    )

pub relax-two-requires : goal.relax-two-requires
relax-two-requires c =
    let p = c.requires in (
      p.1,
      omega (arith, c.from-a.ensures, p.2.a),
      omega (arith, c.from-b.ensures, p.2.b),
      subst (Small 1000000) (sym c.relax-one.ensures.0) (relaxed_small _ 999999 _ _ _ _ p.3),
    )

pub returns-then-passable : goal.returns-then-passable
returns-then-passable c =
    let one = c.relax-one in
    let two = c.relax-two in (
      both_ways _ _ _ _ c.from-a.ensures c.from-b.ensures _ _ _ _ c.passable.ensures c.if-passable.true one.ensures.0
          two.ensures.0,
      neither _ _ _ _ _ _ refl one.ensures.1 two.ensures.1,
    )

pub returns : goal.returns
returns c = (shut_edge _ _ _ _ c.passable.ensures c.if-passable.false, λ _. refl)
