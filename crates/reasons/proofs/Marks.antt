-- Bits of a word: one that is set, the lowest from a place on; and the marks of places among the words.
use Prim.Native.Nat.{ℕ, zero, suc, ◌+◌, ◌-◌, ◌*◌, ◌/◌, ◌%◌, ◌^◌, ◌<◌, ◌≤◌, max}
use native.Mathlib.Omega.{arith}
use native.Mathlib.Nat.{div-eq_of_lt, div-one, zero-div, pow-suc, not-suc-le-zero}
use native.Mathlib.Numerals.{one-add}
use mathlib.Core.Path.{◌≡◌, sym, ap, ◌∙◌}
use mathlib.Core.Logic.{⊎_elim}
use mathlib.Core.Bool.{Bool, true, false}
use mathlib.Core.List.{List}
use lib.Bits.{bit_or, or_step, or_shr}
use lib.Count.{count_trailing_zeros, under}
use lib.Dec.{eqb, ltb}
use lib.ListN.{length, get_or, set}
use lib.Pow.{pow-lt, pow-add, shl-shr, shr-shr}
use lib.Seq.{get_or-set_same, get_or-set_other}
use borrow.Author.Tests.{lt-ltb, le-ltb, eq-eqb, ne_eqb, eqb-true, eqb-false}
use Rattle.base.specs.Iter.{pick}
use Rattle.base.proofs.Loop.{pick_yes, pick_no, tested, eq_or_not}
use Rattle.base.proofs.Tests.{and_no, and_next, and_either, le_or_lt}
use Rattle.reasons.specs.Words.{has_bit, marked, put}

-- ---- a bit that is set
or_low : (a b : ℕ) → bit_or a b % 2 ≡ max (a % 2) (b % 2)
or_low a b = omega (arith, or_step a b)

pow_here : (i : ℕ) → 2 ^ i / 2 ^ i % 2 ≡ 1
pow_here i =
    let e : 1 * 2 ^ i ≡ 2 ^ i = omega arith in
    ap (λ (x : ℕ). x % 2) (ap (λ (x : ℕ). x / 2 ^ i) (sym e) ∙ shl-shr 1 i)

pow_above : (k j : ℕ) → 2 ^ (suc k + j) / 2 ^ j % 2 ≡ 0
pow_above k j =
    let e = ap (λ (x : ℕ). x / 2 ^ j) (pow-add 2 (suc k) j) ∙ shl-shr (2 ^ suc k) j in
    let d = pow-suc 2 k in
    omega arith

pow_other : (i j : ℕ) → (j ≡ i → ⊥) → 2 ^ i / 2 ^ j % 2 ≡ 0
pow_other i j n = ⊎_elim
    (λ (h : suc i ≤ j). ap (λ (x : ℕ). x % 2) (div-eq_of_lt (pow-lt {i = i} {j = j} h)))
    (λ (h : j < suc i).
    let l : j < i = omega arith in
    let e : i ≡ suc (i - suc j) + j = omega arith in
    ap (λ (x : ℕ). 2 ^ x / 2 ^ j % 2) e ∙ pow_above (i - suc j) j)
    (le_or_lt (suc i) j)

pub bit_or_lem : (w i j : ℕ) → has_bit (bit_or w (2 ^ i)) j ≡ pick (eqb j i) true (has_bit w j)
unfolding has_bit
bit_or_lem w i j =
    let e : bit_or w (2 ^ i) / 2 ^ j % 2 ≡ max (w / 2 ^ j % 2) (2 ^ i / 2 ^ j % 2) =
    ap (λ (x : ℕ). x % 2) (or_shr w (2 ^ i) j) ∙ or_low (w / 2 ^ j) (2 ^ i / 2 ^ j) in
    tested (eqb j i)
    (λ t.
    let h : 2 ^ i / 2 ^ j % 2 ≡ 1 = ap (λ (x : ℕ). 2 ^ i / 2 ^ x % 2) (eqb-true j i t) ∙ pow_here i in
    let z : bit_or w (2 ^ i) / 2 ^ j % 2 ≡ 1 = omega (arith, e, h) in
    eq-eqb _ _ z ∙ sym (pick_yes _ _ t))
    (λ t.
    let h = pow_other i j (eqb-false j i t) in
    let z : bit_or w (2 ^ i) / 2 ^ j % 2 ≡ w / 2 ^ j % 2 = omega (arith, e, h) in
    ap (λ (x : ℕ). eqb x 1) z ∙ sym (pick_no _ _ t))

pub no_bit : (j : ℕ) → has_bit 0 j ≡ false
unfolding has_bit
no_bit j = ap (λ (x : ℕ). eqb (x % 2) 1) (zero-div (2 ^ j))

-- ---- the lowest bit
halved : (n j : ℕ) → n / 2 ^ suc j ≡ n / 2 / 2 ^ j
halved n j = sym (shr-shr n 1 j ∙ ap (λ (x : ℕ). n / 2 ^ x) (one-add j))

trailing_even : (k n : ℕ) → n % 2 ≡ 0 → count_trailing_zeros (suc k) n ≡ suc (count_trailing_zeros k (n / 2))
unfolding count_trailing_zeros
trailing_even k n e = ap (λ (x : ℕ). under x (count_trailing_zeros k (n / 2))) e

trailing_odd : (k n : ℕ) → n % 2 ≡ 1 → count_trailing_zeros (suc k) n ≡ 0
unfolding count_trailing_zeros
trailing_odd k n e = ap (λ (x : ℕ). under x (count_trailing_zeros k (n / 2))) e

trailing_below : (k n j : ℕ) → j < count_trailing_zeros k n → n / 2 ^ j % 2 ≡ 0
unfolding count_trailing_zeros
trailing_below zero n j h = absurd (not-suc-le-zero h)
trailing_below (suc k) n zero h = ⊎_elim
    (λ (e : n % 2 ≡ 0). ap (λ (x : ℕ). x % 2) (div-one n) ∙ e)
    (λ (d : n % 2 ≡ 0 → ⊥). let t = trailing_odd k n (omega arith) in absurd (omega arith))
    (eq_or_not (n % 2) 0)
trailing_below (suc k) n (suc j) h = ⊎_elim
    (λ (e : n % 2 ≡ 0).
    let t = trailing_even k n e in
    ap (λ (x : ℕ). x % 2) (halved n j) ∙ trailing_below k (n / 2) j (omega arith))
    (λ (d : n % 2 ≡ 0 → ⊥). let t = trailing_odd k n (omega arith) in absurd (omega arith))
    (eq_or_not (n % 2) 0)

trailing_at : (k n : ℕ) → count_trailing_zeros k n < k → n / 2 ^ count_trailing_zeros k n % 2 ≡ 1
unfolding count_trailing_zeros
trailing_at zero n h = absurd (not-suc-le-zero h)
trailing_at (suc k) n h = ⊎_elim
    (λ (e : n % 2 ≡ 0).
    let t = trailing_even k n e in
    ap (λ (x : ℕ). n / 2 ^ x % 2) t ∙ ap (λ (x : ℕ). x % 2) (halved n (count_trailing_zeros k (n / 2))) ∙ trailing_at k (n / 2) (omega arith))
    (λ (d : n % 2 ≡ 0 → ⊥).
    let o : n % 2 ≡ 1 = omega arith in
    ap (λ (x : ℕ). n / 2 ^ x % 2) (trailing_odd k n o) ∙ ap (λ (x : ℕ). x % 2) (div-one n) ∙ o)
    (eq_or_not (n % 2) 0)

-- from bit s on: those before the lowest, and the lowest
module _ (w s : ℕ) where
  abbrev pub next_bit : ℕ
  next_bit = s + count_trailing_zeros 64 (w / 2 ^ s)

  pub bit_below : (j : ℕ) → s ≤ j → j < next_bit → has_bit w j ≡ false
  unfolding has_bit
  bit_below j a h =
      let z : s + (j - s) ≡ j = omega arith in
      let e = ap (λ (x : ℕ). w / 2 ^ x % 2) (sym z) ∙ ap (λ (x : ℕ). x % 2) (sym (shr-shr w s (j - s))) ∙ trailing_below 64 (w / 2 ^ s) (j - s) (omega arith) in
      ne_eqb _ _ (λ (o : w / 2 ^ j % 2 ≡ 1). omega arith)

  pub bit_at : next_bit < 64 → has_bit w next_bit ≡ true
  unfolding has_bit
  bit_at h =
      let t = count_trailing_zeros 64 (w / 2 ^ s) in
      eq-eqb _ _ (ap (λ (x : ℕ). x % 2) (sym (shr-shr w s t)) ∙ trailing_at 64 (w / 2 ^ s) (omega arith))

-- ---- the marks
abbrev pub mark_at : List ℕ → ℕ → Bool
mark_at words p = has_bit (get_or words (p / 64) 0) (p % 64)

module _ (q x y : ℕ) (a : List ℕ) where
  pub put_short : length a ≤ 69 + 2 * q → a ≡ put q x y a
  unfolding put
  put_short h = sym (pick_no _ _ (sym (and_no (ltb q 4352) (le-ltb (69 + 2 * q) (length a) h))))

  pub put_past : 4352 ≤ q → a ≡ put q x y a
  unfolding put
  put_past h = sym (pick_no _ _ (and_either {a = ltb (69 + 2 * q) (length a)} (λ _. le-ltb q 4352 h)))

module _ (q x y : ℕ) (a : List ℕ) (h : 69 + 2 * q < length a) (k : q < 4352) where
  pub stores : put q x y a ≡ set (set (marked q a) (68 + 2 * q) x) (69 + 2 * q) y
  unfolding put
  stores =
      pick_yes _ _ (sym (and_next (ltb q 4352) true (lt-ltb (69 + 2 * q) (length a) h) (sym (lt-ltb q 4352 k))))

  -- as `put` stores
  pub put_stores : (w : ℕ) → w ≡ bit_or (get_or a (q / 64) 0) (2 ^ (q % 64)) →
      set (set (set a (q / 64) w) (68 + 2 * q) x) (69 + 2 * q) y ≡ put q x y a
  unfolding marked
  put_stores w e = ap (λ (i : ℕ). set (set (set a (q / 64) i) (68 + 2 * q) x) (69 + 2 * q) y) e ∙ sym stores

  -- a place is marked then where it is the one, or was
  pub put_mark : (p : ℕ) → p < 4352 → mark_at (put q x y a) p ≡ pick (eqb p q) true (mark_at a p)
  unfolding marked
  put_mark p l =
      ap (λ (v : List ℕ). mark_at v p) stores
      ∙ ap (λ (w : ℕ). has_bit w (p % 64))
      (get_or-set_other (set (marked q a) (68 + 2 * q) x) (69 + 2 * q) (p / 64) y 0 (λ (e : p / 64 ≡ 69 + 2 * q). omega arith)
      ∙ get_or-set_other (marked q a) (68 + 2 * q) (p / 64) x 0 (λ (e : p / 64 ≡ 68 + 2 * q). omega arith))
      ∙ ⊎_elim
      (λ (e : p / 64 ≡ q / 64).
      ap (λ (i : ℕ). has_bit (get_or (marked q a) i 0) (p % 64)) e
      ∙ ap (λ (w : ℕ). has_bit w (p % 64)) (get_or-set_same a (q / 64) (bit_or (get_or a (q / 64) 0) (2 ^ (q % 64))) 0 (omega arith))
      ∙ bit_or_lem (get_or a (q / 64) 0) (q % 64) (p % 64)
      ∙ ap (λ (b : Bool). pick b true (has_bit (get_or a (q / 64) 0) (p % 64))) (same e)
      ∙ ap (λ (i : ℕ). pick (eqb p q) true (has_bit (get_or a i 0) (p % 64))) (sym e))
      (λ (n : p / 64 ≡ q / 64 → ⊥).
      ap (λ (w : ℕ). has_bit w (p % 64)) (get_or-set_other a (q / 64) (p / 64) (bit_or (get_or a (q / 64) 0) (2 ^ (q % 64))) 0 n)
      ∙ sym (pick_no _ _ (ne_eqb p q (λ (e : p ≡ q). n (ap (λ (i : ℕ). i / 64) e)))))
      (eq_or_not (p / 64) (q / 64))
    where
      same : p / 64 ≡ q / 64 → eqb (p % 64) (q % 64) ≡ eqb p q
      same e = ⊎_elim
          (λ (d : p ≡ q). eq-eqb _ _ (ap (λ (i : ℕ). i % 64) d) ∙ sym (eq-eqb p q d))
          (λ (n : p ≡ q → ⊥). ne_eqb _ _ (λ (d : p % 64 ≡ q % 64). n (omega arith)) ∙ sym (ne_eqb p q n))
          (eq_or_not p q)
