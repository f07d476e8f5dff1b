-- How many of the first n are true.
use Prim.Native.Nat.{ℕ, zero, suc, ◌+◌, ◌≤◌, ◌<◌, zero-le}
use native.Mathlib.Nat.{le_step, not-suc-le-zero, lt-suc_self}
use native.Mathlib.Omega.{arith}
use mathlib.Core.Path.{◌≡◌, refl, sym, ap, subst}
use mathlib.Core.Logic.{⊎_elim}
use mathlib.Core.Bool.{Bool, true, false}
use Rattle.base.proofs.Loop.{tested, eq_or_not}
use Rattle.graph.specs.Bounds.{bit, ones}

bit_yes : {b : Bool} → b ≡ true → bit b ≡ 1
unfolding bit
bit_yes e = ap bit e

bit_no : {b : Bool} → b ≡ false → bit b ≡ 0
unfolding bit
bit_no e = ap bit e

one_le : (b : Bool) → bit b ≤ 1
unfolding bit
one_le true = omega arith
one_le false = omega arith

pub ones_le : (b : ℕ → Bool) (n : ℕ) → ones b n ≤ n
unfolding ones
ones_le b zero = zero-le
ones_le b (suc n) = omega (arith, ones_le b n, one_le (b n))

-- where one is false, fewer are true than there are
pub ones_room : (b : ℕ → Bool) (n q : ℕ) → q < n → b q ≡ false → ones b n < n
unfolding ones
ones_room b zero q h e = absurd (not-suc-le-zero h)
ones_room b (suc n) q h e =
    ⊎_elim (λ (x : q ≡ n). let z : bit (b n) ≡ 0 = bit_no (subst (λ i. b i ≡ false) x e) in omega (arith, ones_le b n))
    (λ (x : q ≡ n → ⊥). let l : q < n = omega arith in omega (arith, ones_room b n q l e, one_le (b n)))
    (eq_or_not q n)

pub ones_same : (b d : ℕ → Bool) (n : ℕ) → ((r : ℕ) → r < n → d r ≡ b r) → ones d n ≡ ones b n
unfolding ones
ones_same b d zero f = refl
ones_same b d (suc n) f =
    let x : bit (d n) ≡ bit (b n) = ap bit (f n (lt-suc_self n)) in
    omega (arith, ones_same b d n (λ r h. f r (le_step h)))

-- one more is true
pub ones_set : (b d : ℕ → Bool) (n q : ℕ) → q < n → b q ≡ false → d q ≡ true → ((r : ℕ) → (r ≡ q → ⊥) → d r ≡ b r) → ones d n ≡ ones b n + 1
unfolding ones
ones_set b d zero q h e t f = absurd (not-suc-le-zero h)
ones_set b d (suc n) q h e t f =
    ⊎_elim (λ (x : q ≡ n).
    let y : bit (d n) ≡ 1 = bit_yes (subst (λ i. d i ≡ true) x t) in
    let z : bit (b n) ≡ 0 = bit_no (subst (λ i. b i ≡ false) x e) in
    omega (arith, ones_same b d n (λ r k. f r (λ (w : r ≡ q). omega arith))))
    (λ (x : q ≡ n → ⊥).
    let l : q < n = omega arith in
    let y : bit (d n) ≡ bit (b n) = ap bit (f n (λ (w : n ≡ q). x (sym w))) in
    omega (arith, ones_set b d n q l e t f))
    (eq_or_not q n)

-- where all that are true stand below n, there are at most n
pub ones_below : (b : ℕ → Bool) (m n : ℕ) → ((q : ℕ) → b q ≡ true → q < n) → ones b m ≤ n
unfolding ones
ones_below b zero n h = zero-le
ones_below b (suc m) n h =
    tested (b m) (λ e. omega (arith, h m e, ones_le b m, one_le (b m)))
    (λ e. let z : bit (b m) ≡ 0 = bit_no e in omega (arith, ones_below b m n h))

pub ones_none : (b : ℕ → Bool) (n : ℕ) → ((q : ℕ) → b q ≡ false) → ones b n ≡ 0
unfolding ones
ones_none b zero h = refl
ones_none b (suc n) h = let z : bit (b n) ≡ 0 = bit_no (h n) in omega (arith, ones_none b n h)
