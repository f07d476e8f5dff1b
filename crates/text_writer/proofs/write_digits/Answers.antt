use mathlib.Core.Path.{ap}
use Prim.Native.Nat.{ℕ, ◌+◌}
use native.Mathlib.Omega.{arith}
use Rattle.text_writer.proofs.Putting.{backward_start, backward_step, backward_done}
use Rattle.text_writer.proofs.write_digits.Goals as goal

pub loop-p-init : goal.loop-p-init
loop-p-init c =
    let a = c.args in
    let e = ap (λ (k : ℕ). a.at + k) c.count_digits.ensures in
    (e, backward_start a.n a.buf.now a.at _ e)

pub bounds-buf-p : goal.bounds-buf-p
bounds-buf-p c =
    let l = c.loop-p in
    omega (arith, l.invariant.1.long, l.invariant.1.to)

pub loop-p-preserved : goal.loop-p-preserved
loop-p-preserved c =
    let l = c.loop-p in
    (l.invariant.0, backward_step _ _ _ l.buf l.p l.quotient c.loop-p-test.true (omega arith) l.invariant.1)

pub returns : goal.returns
returns c =
    let l = c.loop-p in
    (l.invariant.0, backward_done _ _ _ l.buf l.p l.quotient c.loop-p-test.false l.invariant.1)
