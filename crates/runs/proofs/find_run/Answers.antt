use mathlib.Core.Path.{refl}
use native.Mathlib.Omega.{arith}
use Prim.Native.Nat.{◌+◌}
use borrow.Author.Tests.{eq-eqb}
use Rattle.runs.specs.Small.{blank}
use Rattle.runs.proofs.Eased.{fine_64}
use Rattle.runs.proofs.Answers.{far_small, far_settled, run_told, none_told}
use Rattle.runs.proofs.find_run.Goals as goal

pub measure-requires : goal.measure-requires
unfolding blank
measure-requires c = let p = c.requires in (p.0, p.1, p.3, refl)

pub overflow_cast-n : goal.overflow_cast-n
overflow_cast-n c =
    let s = far_small _ _ _ _ _ _ c.requires.0 c.requires.2 c.requires.3 _ c.measure.ensures in
    omega (arith, s.all (64 + c.args.from))

pub write_run-requires : goal.write_run-requires
write_run-requires c =
    let p = c.requires in
    let m = c.measure.ensures in (
      fine_64 _ _ _ p.0,
      p.1,
      omega (arith, p.2, p.0.vertices),
      far_small _ _ _ _ _ _ p.0 p.2 p.3 _ m,
      (c.args.to, far_settled _ _ _ _ _ _ p.0 p.2 p.3 _ m),
      eq-eqb _ _ c.if-far-from-eq1.true,
      refl,
    )

pub returns-then-far-from-eq1 : goal.returns-then-far-from-eq1
returns-then-far-from-eq1 c =
    let p = c.requires in
    run_told _ _ _ _ _ _ p.0 p.2 p.3 _ c.measure.ensures _ _ _ c.if-far-from-eq1.true c.write_run.ensures

pub returns : goal.returns
returns c =
    let p = c.requires in
    none_told _ _ _ _ _ _ p.0 p.2 p.3 _ c.measure.ensures _ c.if-far-from-eq1.false
