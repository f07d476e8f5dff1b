use mathlib.Core.Path.{◌≡◌, refl, sym, ◌∙◌, subst}
use Prim.Native.Nat.{ℕ, suc, ◌+◌, ◌-◌, ◌*◌, ◌^◌, ◌<◌}
use native.Mathlib.Nat.{pow-zero}
use native.Mathlib.Omega.{arith}
use lib.ListN.{get_or}
use Rattle.text.proofs.Runs.{low_at, high_at, digit_at, digits_end, grows, power_room}
use Rattle.text.proofs.read_digits.Goals as goal
use Rattle.text.proofs.read_digits.Goals.{then-b-lt48-via-then-b-lt48, then-b-lt48-via-else-b-lt48+then-b-gt57}

pub loop-i-init : goal.loop-i-init
loop-i-init c =
    let a = c.args in
    let z : a.from - a.from ≡ 0 = omega arith in
    (rw (z, pow-zero) (omega arith), refl)

pub returns-then-b-lt48 : goal.returns-then-b-lt48
returns-then-b-lt48 c =
    let l = c.loop-i in
    let a = c.args in
    elim c.then-b-lt48.branch [
      | then-b-lt48-via-then-b-lt48 w ↦ c.nothing.ensures ∙ sym (low_at a.minus l.v a.s.now l.i (omega arith) (omega arith)) ∙ l.invariant.1
      | then-b-lt48-via-else-b-lt48+then-b-gt57 w ↦ c.nothing.ensures ∙ sym (high_at a.minus l.v a.s.now l.i (omega arith) (omega arith) (omega arith)) ∙ l.invariant.1
    ]

pub overflow_mul-v : goal.overflow_mul-v
overflow_mul-v c =
    let l = c.loop-i in
    omega (arith, power_room (l.i - c.args.from) (omega arith))

pub overflow_add-v : goal.overflow_add-v
overflow_add-v c =
    let l = c.loop-i in
    omega (arith, power_room (l.i - c.args.from) (omega arith))

pub loop-i-preserved : goal.loop-i-preserved
loop-i-preserved c =
    let l = c.loop-i in
    let a = c.args in
    let z : suc (l.i - a.from) ≡ l.i + 1 - a.from = omega arith in
    rw c.from.ensures (
      subst (λ (k : ℕ). l.v * 10 + (get_or a.s.now l.i 0 - 48) < 10 ^ k) z (grows l.v (l.i - a.from) (get_or a.s.now l.i 0) l.invariant.0 (omega arith)),
      sym (digit_at a.minus l.v a.s.now l.i (omega arith) (omega arith) (omega arith)) ∙ l.invariant.1,
    )

pub returns : goal.returns
returns c =
    let l = c.loop-i in
    let a = c.args in
    sym (digits_end a.minus l.v a.s.now l.i (omega arith)) ∙ l.invariant.1
