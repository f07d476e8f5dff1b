-- A run of digits, as code walks it, and what its size is below.
use mathlib.Core.Path.{◌≡◌, refl, sym, ap, ◌∙◌, subst}
use mathlib.Core.List.{List, [], ◌∷◌}
use mathlib.Core.Bool.{Bool, true, false, false≢true}
use Prim.Native.Nat.{ℕ, suc, ◌+◌, ◌-◌, ◌*◌, ◌^◌, ◌≤◌, ◌<◌}
use native.Mathlib.Nat.{zero-add, pow-zero, pow-suc, pow-le-pow_right}
use native.Mathlib.Omega.{arith}
use native.Mathlib.Numerals.{add-one, unary_clauses}
use lib.Dec.{leb, eqb}
use lib.ListN.{length, drop, get_or, drop_of_length-le, length-drop}
use lib.Seq.{drop-cons}
use borrow.Author.Tests.{le-leb, lt-leb, leb-true, eq-eqb, ne_eqb}
use Rattle.base.specs.Iter.{pick}
use Rattle.base.proofs.Loop.{pick_yes, pick_no, pick_ind, tested}
use Rattle.text.specs.declared.Field.{Field}
use Rattle.text.specs.Number.{all_digits, decimal, none, digits_field, sized, field_of}

-- ---- one byte more
low : (minus : Bool) (v b : ℕ) (l : List ℕ) → b < 48 → digits_field minus v (b ∷ l) ≡ none
unfolding digits_field all_digits
low minus v b l h = pick_no _ _ (pick_no _ _ (lt-leb 48 b h))

high : (minus : Bool) (v b : ℕ) (l : List ℕ) → 48 ≤ b → 57 < b → digits_field minus v (b ∷ l) ≡ none
unfolding digits_field all_digits
high minus v b l h k = pick_no _ _ (pick_yes _ _ (le-leb 48 b h) ∙ pick_no _ _ (lt-leb b 57 k))

digit : (minus : Bool) (v b : ℕ) (l : List ℕ) → 48 ≤ b → b ≤ 57 → digits_field minus v (b ∷ l) ≡ digits_field minus (v * 10 + (b - 48)) l
unfolding digits_field all_digits decimal
digit minus v b l h k =
    ap (λ (t : Bool). pick t (record { ok = true; minus = minus; size = decimal (v * 10 + (b - 48)) l }) none)
    (pick_yes _ _ (le-leb 48 b h) ∙ pick_yes _ _ (le-leb b 57 k))

module _ (minus : Bool) (v : ℕ) (l : List ℕ) (i : ℕ) where
  pub low_at : i < length l → get_or l i 0 < 48 → digits_field minus v (drop i l) ≡ none
  low_at h k = ap (digits_field minus v) (drop-cons l i 0 h) ∙ low minus v (get_or l i 0) (drop (suc i) l) k

  pub high_at : i < length l → 48 ≤ get_or l i 0 → 57 < get_or l i 0 → digits_field minus v (drop i l) ≡ none
  high_at h k k' = ap (digits_field minus v) (drop-cons l i 0 h) ∙ high minus v (get_or l i 0) (drop (suc i) l) k k'

  pub digit_at : i < length l → 48 ≤ get_or l i 0 → get_or l i 0 ≤ 57 →
      digits_field minus v (drop i l) ≡ digits_field minus (v * 10 + (get_or l i 0 - 48)) (drop (i + 1) l)
  digit_at h k k' =
      ap (digits_field minus v) (drop-cons l i 0 h)
      ∙ digit minus v (get_or l i 0) (drop (suc i) l) k k'
      ∙ (rw add-one)

  pub digits_end : length l ≤ i → digits_field minus v (drop i l) ≡ record { ok = true; minus = minus; size = v }
  unfolding digits_field all_digits decimal pick
  digits_end h = ap (digits_field minus v) (drop_of_length-le l h)

-- ---- 1 to 9 of them
module _ (minus : Bool) (l : List ℕ) (i : ℕ) where
  pub too_few : length l - i < 1 → sized minus (drop i l) ≡ none
  unfolding sized
  too_few h = pick_no _ _ (lt-leb 1 (length (drop i l)) (simp length-drop h))

  pub too_many : 9 < length l - i → sized minus (drop i l) ≡ none
  unfolding sized
  too_many h =
      pick_yes _ _ (le-leb 1 (length (drop i l)) (simp length-drop (omega arith)))
      ∙ pick_no _ _ (lt-leb (length (drop i l)) 9 (simp length-drop h))

  pub enough : 1 ≤ length l - i → length l - i ≤ 9 → sized minus (drop i l) ≡ digits_field minus 0 (drop i l)
  unfolding sized
  enough h k =
      pick_yes _ _ (le-leb 1 (length (drop i l)) (simp length-drop h))
      ∙ pick_yes _ _ (le-leb (length (drop i l)) 9 (simp length-drop k))

-- ---- the minus
pub field_empty : (l : List ℕ) → length l ≡ 0 → field_of l ≡ none
unfolding field_of
field_empty [] h = refl
field_empty (b ∷ l) h = absurd (omega arith)

pub field_minus : (l : List ℕ) → 0 < length l → get_or l 0 0 ≡ 45 → field_of l ≡ sized true (drop 1 l)
unfolding field_of
field_minus [] h e = absurd (omega arith)
field_minus (b ∷ l) h e = pick_yes _ _ (eq-eqb b 45 e)

pub field_plain : (l : List ℕ) → 0 < length l → (get_or l 0 0 ≡ 45 → ⊥) → field_of l ≡ sized false (drop 0 l)
unfolding field_of
field_plain [] h e = absurd (omega arith)
field_plain (b ∷ l) h e = pick_no _ _ (ne_eqb b 45 e)

-- ---- n digits make a number below 10 ^ n
pub grows : (v k b : ℕ) → v < 10 ^ k → b ≤ 57 → v * 10 + (b - 48) < 10 ^ suc k
grows v k b h g = rw pow-suc (omega arith)

bounded : (l : List ℕ) (v k : ℕ) → v < 10 ^ k → all_digits l ≡ true → decimal v l < 10 ^ (k + length l)
unfolding all_digits decimal
bounded [] v k h d = simp unary_clauses h
bounded (b ∷ l) v k h d = tested (leb 48 b)
    (λ t. tested (leb b 57)
    (λ t'.
    let e : all_digits l ≡ true = sym (pick_yes _ _ t ∙ pick_yes _ _ t') ∙ d in
    let p : suc k + length l ≡ k + suc (length l) = omega arith in
    subst (λ (n : ℕ). decimal (v * 10 + (b - 48)) l < 10 ^ n) p
    (bounded l (v * 10 + (b - 48)) (suc k) (grows v k b h (leb-true b 57 t')) e))
    (λ t'. absurd (false≢true (sym (pick_yes _ _ t ∙ pick_no _ _ t') ∙ d))))
    (λ t. absurd (false≢true (sym (pick_no _ _ t) ∙ d)))

pub power_room : (k : ℕ) → k ≤ 8 → 10 ^ k ≤ 100000000
power_room k h = pow-le-pow_right {n = 10} (omega arith) h

pub power_fits : (k : ℕ) → k ≤ 9 → 10 ^ k ≤ 1000000000
power_fits k h = pow-le-pow_right {n = 10} (omega arith) h

abbrev Small : Field → Type 0
Small f = f.size < 1000000000

none_small : Small none
unfolding none
none_small = omega arith

sized_small : (minus : Bool) (l : List ℕ) → Small (sized minus l)
unfolding sized digits_field
sized_small minus l =
    pick_ind Small (leb 1 (length l)) _ _
    (λ t. pick_ind Small (leb (length l) 9) _ _
    (λ t'. pick_ind Small (all_digits l) _ _
    (λ t''. omega (arith, simp zero-add at (bounded l 0 0 (rw pow-zero (omega arith)) t''), power_fits (length l) (leb-true (length l) 9 t')))
    (λ t''. none_small))
    (λ t'. none_small))
    (λ t. none_small)

-- a field's size is below 1,000,000,000
pub field_small : (l : List ℕ) → (field_of l).size < 1000000000
unfolding field_of
field_small [] = none_small
field_small (b ∷ l) = pick_ind Small (eqb b 45) _ _ (λ t. sized_small true l) (λ t. sized_small false (b ∷ l))
