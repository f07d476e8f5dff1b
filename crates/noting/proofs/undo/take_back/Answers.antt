use mathlib.Core.Path.{◌≡◌, refl, sym, ap, ◌∙◌}
use Prim.Native.Nat.{◌-◌}
use native.Mathlib.Omega.{arith}
use Rattle.noting.proofs.Back.{undone_none, back_stop, back_on}
use Rattle.noting.specs.Undo.{records_of, undone}
use Rattle.noting.proofs.undo.take_back.Goals as goal

pub loop-i-init : goal.loop-i-init
loop-i-init c = (refl, refl)

pub returns-then-r-eq-LEVEL_BOUNDARY : goal.returns-then-r-eq-LEVEL_BOUNDARY
returns-then-r-eq-LEVEL_BOUNDARY c = let b = back_stop c.args.log.now c.loop-i.i (omega arith) c.record_at-r.result c.record_at-r.ensures c.loop-i.noted c.if-r-eq-LEVEL_BOUNDARY.true in (b.0 ∙ c.loop-i.invariant.0, b.1 ∙ c.loop-i.invariant.1)

pub loop-i-preserved : goal.loop-i-preserved
loop-i-preserved c = let b = back_on c.args.log.now c.loop-i.i (omega arith) c.record_at-r.result c.record_at-r.ensures c.loop-i.noted c.if-r-eq-LEVEL_BOUNDARY.false in (ap (undone (records_of c.args.log.now (c.loop-i.i - 1))) c.restore.ensures ∙ b.0 ∙ c.loop-i.invariant.0, b.1 ∙ c.loop-i.invariant.1)

pub returns : goal.returns
returns c =
    let l = c.loop-i in
    let b = undone_none c.args.log.now l.noted l.i (omega arith) in
    let z : 0 ≡ l.i = omega arith in
    (sym b.0 ∙ l.invariant.0, z ∙ sym b.1 ∙ l.invariant.1)
