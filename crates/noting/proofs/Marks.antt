-- Marks kept as bits: reading one, setting one, and that none is set at first.
use mathlib.Core.Path.{◌≡◌, refl, sym, ap, ◌∙◌}
use mathlib.Core.Bool.{not}
use mathlib.Core.Logic.{⊎_elim}
use mathlib.Core.List.{List}
use Prim.Native.Nat.{ℕ, zero, suc, ◌+◌, ◌-◌, ◌*◌, ◌/◌, ◌%◌, ◌^◌, ◌≤◌, ◌<◌}
use native.Mathlib.Omega.{arith}
use native.Mathlib.Nat.{zero-div, div_self, div-eq_of_lt, pow-suc, one-mul, mul-mod_left}
use native.Mathlib.Decide.{ℕ_discrete}
use lib.Bits.{bit_or, or_shr, or_mod, or_zero_r}
use lib.Dec.{eqb}
use lib.ListN.{length, get_or, set, replicate, length-set, length-replicate, get_or-replicate}
use lib.Pow.{pow_pos, pow-lt, pow-add, shl_exact, shl-shr}
use lib.Seq.{ext_get_or, get_or-set_same, get_or-set_other}
use borrow.Author.Tests.{lt-ltb}
use Rattle.base.specs.Lists.{tab}
use Rattle.base.proofs.Lists.{tab_at}
use Rattle.base.proofs.Loop.{pick_yes}
use Rattle.base.proofs.Tests.{le_or_lt, and_next}
use Rattle.noting.specs.Replay.{marked, set_mark}
use Rattle.noting.specs.Following.{mark_in, marks_of}

pub tab_length : (f : ℕ → ℕ) (n : ℕ) → length (tab f n) ≡ n
unfolding tab
tab_length f zero = refl
tab_length f (suc n) = ap suc (tab_length (λ i. f (suc i)) n)

-- ---- bit j of a number, n / 2 ^ j % 2
or_bit : (x y j : ℕ) → bit_or x y / 2 ^ j % 2 ≡ bit_or (x / 2 ^ j % 2) (y / 2 ^ j % 2)
or_bit x y j = ap (λ (n : ℕ). n % 2) (or_shr x y j) ∙ or_mod (x / 2 ^ j) (y / 2 ^ j) 1

or_one : (b : ℕ) → b < 2 → bit_or b 1 ≡ 1
or_one zero h = refl
or_one (suc zero) h = refl
or_one (suc (suc b)) h = absurd (omega arith)

-- of a power of 2
own_bit : (s : ℕ) → 2 ^ s / 2 ^ s % 2 ≡ 1
own_bit s = ap (λ (n : ℕ). n % 2) (div_self (pow_pos s))

higher_bit : (s j : ℕ) → s < j → 2 ^ s / 2 ^ j % 2 ≡ 0
higher_bit s j h = ap (λ (n : ℕ). n % 2) (div-eq_of_lt (pow-lt h))

lower_bit : (s j : ℕ) → j < s → 2 ^ s / 2 ^ j % 2 ≡ 0
lower_bit s j h =
    let d : ℕ = s - suc j in
    let e : s ≡ suc d + j = omega arith in
    ap (λ (n : ℕ). 2 ^ n / 2 ^ j % 2) e ∙ ap (λ (n : ℕ). n / 2 ^ j % 2) (pow-add 2 (suc d) j)
    ∙ ap (λ (n : ℕ). n % 2) (shl-shr (2 ^ suc d) j) ∙ ap (λ (n : ℕ). n % 2) (pow-suc 2 d) ∙ mul-mod_left (2 ^ d) 2

pub bit_set : (x s : ℕ) → bit_or x (2 ^ s) / 2 ^ s % 2 ≡ 1
bit_set x s = or_bit x (2 ^ s) s ∙ ap (bit_or (x / 2 ^ s % 2)) (own_bit s) ∙ or_one (x / 2 ^ s % 2) (omega arith)

pub bit_kept : (x s j : ℕ) → (j ≡ s → ⊥) → bit_or x (2 ^ s) / 2 ^ j % 2 ≡ x / 2 ^ j % 2
bit_kept x s j n =
    let z : 2 ^ s / 2 ^ j % 2 ≡ 0 = ⊎_elim (λ (h : s ≤ j). higher_bit s j (omega arith)) (λ (h : j < s). lower_bit s j h) (le_or_lt s j) in
    or_bit x (2 ^ s) j ∙ ap (bit_or (x / 2 ^ j % 2)) z ∙ or_zero_r (x / 2 ^ j % 2)

-- the code's 1 << s
pub bit_of : (s : ℕ) → s < 64 → (1 * 2 ^ s) % 2 ^ 64 ≡ 2 ^ s
bit_of s h = shl_exact {a = 1} 1 s 64 (omega arith) (omega arith) ∙ one-mul (2 ^ s)

-- ---- the marks
pub mark_at : (m : List ℕ) (k : ℕ) → k < 2176 → get_or (marks_of m) k 0 ≡ mark_in m k
unfolding marks_of
mark_at m k h = tab_at (mark_in m) 2176 k h

marks_length : (m : List ℕ) → length (marks_of m) ≡ 2176
unfolding marks_of
marks_length m = tab_length (mark_in m) 2176

pub no_marks : marks_of (replicate 34 0) ≡ replicate 2176 0
unfolding mark_in
no_marks =
    ext_get_or 0 (marks_of (replicate 34 0)) (replicate 2176 0) (marks_length (replicate 34 0) ∙ sym (length-replicate {0} {A = ℕ} 2176 0))
    (λ i h.
    let k : i < 2176 = omega (arith, marks_length (replicate 34 0)) in
    mark_at (replicate 34 0) i k
    ∙ ap (λ (w : ℕ). w / 2 ^ (i % 64) % 2) (get_or-replicate {A = ℕ} 34 (i / 64) 0 0 (omega arith))
    ∙ ap (λ (n : ℕ). n % 2) (zero-div (2 ^ (i % 64)))
    ∙ sym (get_or-replicate {A = ℕ} 2176 i 0 0 k))

module _ (m : List ℕ) (k : ℕ) (h : k < 2176) where
  pub marked_bit : (r : ℕ) → r ≡ mark_in m k → not (eqb r 0) ≡ marked (marks_of m) k
  unfolding marked
  marked_bit r e = ap not (and_next _ _ (lt-ltb k 2176 h) (ap (λ (n : ℕ). eqb n 0) (e ∙ sym (mark_at m k h))))

  module _ (l : length m ≡ 34) where
    abbrev after : List ℕ
    after = set m (k / 64) (bit_or (get_or m (k / 64) 0) (2 ^ (k % 64)))

    after_same : (i : ℕ) → i / 64 ≡ k / 64 → mark_in after i ≡ bit_or (get_or m (k / 64) 0) (2 ^ (k % 64)) / 2 ^ (i % 64) % 2
    unfolding mark_in
    after_same i e =
        ap (λ (q : ℕ). get_or after q 0 / 2 ^ (i % 64) % 2) e
        ∙ ap (λ (w : ℕ). w / 2 ^ (i % 64) % 2) (get_or-set_same m (k / 64) _ 0 (omega arith))

    after_other : (i : ℕ) → (i ≡ k → ⊥) → mark_in after i ≡ mark_in m i
    unfolding mark_in
    after_other i n =
        elim (ℕ_discrete (i / 64) (k / 64)) [
          | yes e ↦ after_same i e ∙ bit_kept (get_or m (k / 64) 0) (k % 64) (i % 64) (λ (q : i % 64 ≡ k % 64). n (omega arith)) ∙ ap (λ (q : ℕ). get_or m q 0 / 2 ^ (i % 64) % 2) (sym e)
          | no f ↦ ap (λ (w : ℕ). w / 2 ^ (i % 64) % 2) (get_or-set_other m (k / 64) (i / 64) _ 0 f)
        ]

    pub mark_set : marks_of after ≡ set_mark k (marks_of m)
    unfolding set_mark
    mark_set =
        ext_get_or 0 (marks_of after) (set (marks_of m) k 1) (marks_length after ∙ sym (length-set (marks_of m) k 1 ∙ marks_length m))
        (λ i b.
        let c : i < 2176 = omega (arith, marks_length after) in
        mark_at after i c
        ∙ elim (ℕ_discrete i k) [
          | yes e ↦ after_same i (ap (λ (n : ℕ). n / 64) e) ∙ ap (λ (j : ℕ). bit_or (get_or m (k / 64) 0) (2 ^ (k % 64)) / 2 ^ (j % 64) % 2) e ∙ bit_set (get_or m (k / 64) 0) (k % 64) ∙ sym (ap (λ (j : ℕ). get_or (set (marks_of m) k 1) j 0) e ∙ get_or-set_same (marks_of m) k 1 0 (omega (arith, marks_length m)))
          | no f ↦ after_other i f ∙ sym (get_or-set_other (marks_of m) k i 1 0 f ∙ mark_at m i c)
        ])
        ∙ sym (pick_yes _ _ (lt-ltb k 2176 h))
