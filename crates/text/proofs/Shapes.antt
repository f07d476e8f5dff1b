-- A line's shape, one answer of the code at a time.
use mathlib.Core.Path.{◌≡◌, refl, sym, ap, ◌∙◌}
use mathlib.Core.List.{List, [], ◌∷◌, map}
use mathlib.Core.Bool.{Bool, true, false, false≢true}
use Prim.Native.Nat.{ℕ, zero, suc, ◌≤◌, ◌<◌, zero-le}
use native.Mathlib.Omega.{arith}
use lib.IntN.{ℤ, pos, neg_ℤ}
use lib.Signed.{le_z}
use lib.Dec.{leb, eqb}
use lib.ListN.{length, take, drop, get_or}
use lib.Seq.{length-take-le, get_or-take}
use borrow.Author.Tests.{eq-eqb, ne_eqb, le-leb, leb-true, eqb-true, eqb-false}
use Rattle.base.specs.Iter.{pick}
use Rattle.base.proofs.Loop.{pick_yes, pick_no, tested}
use Rattle.text.specs.declared.Field.{Field}
use Rattle.text.specs.declared.Seen.{Seen}
use Rattle.text.specs.declared.Line.TheVariants.{RLast, Malformed}
use Rattle.text.specs.Fields.{tab, upto}
use Rattle.text.specs.Number.{none, field_of, number_of}
use Rattle.text.specs.Lines.{all_numbers, seen_of, within, by_letter, shaped, asks_last, read_line}
use Rattle.text.specs.Steps.{more, Fitting}
use Rattle.text.proofs.Cut.{upto_within, split_first}
use Rattle.text.proofs.Runs.{field_small}

-- ---- a value from 0 to most
plus_within : (most n : ℕ) → pick (le_z (pos 0) (pos n)) (le_z (pos n) (pos most)) false ≡ leb n most
plus_within most n = pick_yes _ _ (le-leb 0 n zero-le)

below_zero : (most n : ℕ) → (n ≡ 0 → ⊥) → pick (le_z (pos 0) (neg_ℤ (pos n))) (le_z (neg_ℤ (pos n)) (pos most)) false ≡ false
below_zero most zero h = absurd (h refl)
below_zero most (suc n) h = pick_no _ _ refl

module _ (most : ℕ) (f : Field) where
  valued : ℤ → Bool
  valued z = pick (le_z (pos 0) z) (le_z z (pos most)) false

  pub within_plus : f.minus ≡ false → leb f.size most ≡ within most f
  unfolding within number_of valued
  within_plus h = sym (ap valued (pick_no _ _ h) ∙ plus_within most f.size)

  pub within_minus : f.minus ≡ true → (f.size ≡ 0 → ⊥) → false ≡ within most f
  unfolding within number_of valued
  within_minus h k = sym (ap valued (pick_yes _ _ h) ∙ below_zero most f.size k)

  pub within_zero : f.size ≡ 0 → true ≡ within most f
  unfolding within number_of valued
  within_zero h = tested f.minus
      (λ t. sym (ap valued (pick_yes _ _ t ∙ ap (λ (n : ℕ). neg_ℤ (pos n)) h) ∙ plus_within most 0 ∙ le-leb 0 most zero-le))
      (λ t. sym (ap valued (pick_no _ _ t ∙ ap pos h) ∙ plus_within most 0 ∙ le-leb 0 most zero-le))

  pub within_size : within most f ≡ true → f.size ≤ most
  within_size h = tested (eqb f.size 0)
      (λ t. omega (arith, eqb-true f.size 0 t))
      (λ t. tested f.minus
      (λ t'. absurd (false≢true (within_minus t' (eqb-false f.size 0 t) ∙ h)))
      (λ t'. leb-true f.size most (within_plus t' ∙ h)))

-- ---- the whole line
first_is : (l : List ℕ) → length (take (upto tab l) l) ≡ upto tab l
first_is l = length-take-le (upto tab l) l (upto_within tab l)

module _ (l : List ℕ) where
  pub line_last : asks_last l ≡ true → RLast ≡ read_line l
  unfolding read_line
  line_last h = sym (pick_yes _ _ h)

  pub line_letter : asks_last l ≡ false → (upto tab l ≡ 1 → ⊥) → Malformed ≡ read_line l
  unfolding read_line shaped
  line_letter h k =
      sym
      (pick_no _ _ h ∙ ap shaped (split_first tab l)
      ∙ pick_no _ _ (ne_eqb (length (take (upto tab l) l)) 1 (λ (e : length (take (upto tab l) l) ≡ 1). k (sym (first_is l) ∙ e))))

  opened : asks_last l ≡ false → upto tab l ≡ 1 →
      read_line l ≡ pick (all_numbers (map field_of (more tab (drop 1 l)))) (by_letter (get_or l 0 0) (seen_of (map field_of (more tab (drop 1 l))))) Malformed
  unfolding read_line shaped
  opened h k =
      pick_no _ _ h ∙ ap shaped (split_first tab l)
      ∙ pick_yes _ _ (eq-eqb (length (take (upto tab l) l)) 1 (first_is l ∙ k))
      ∙ ap (λ (u : ℕ). pick (all_numbers (map field_of (more tab (drop u l)))) (by_letter (get_or (take u l) 0 0) (seen_of (map field_of (more tab (drop u l))))) Malformed) k
      ∙ ap (λ (b : ℕ). pick (all_numbers (map field_of (more tab (drop 1 l)))) (by_letter b (seen_of (map field_of (more tab (drop 1 l))))) Malformed) (get_or-take 1 l 0 0 (omega arith))

  pub line_field : asks_last l ≡ false → upto tab l ≡ 1 → (seen_of (map field_of (more tab (drop 1 l)))).ok ≡ false → Malformed ≡ read_line l
  unfolding seen_of
  line_field h k e = sym (opened h k ∙ pick_no _ _ e)

  pub line_shaped : asks_last l ≡ false → upto tab l ≡ 1 → (seen_of (map field_of (more tab (drop 1 l)))).ok ≡ true →
      by_letter (get_or l 0 0) (seen_of (map field_of (more tab (drop 1 l)))) ≡ read_line l
  unfolding seen_of
  line_shaped h k e = sym (opened h k ∙ pick_yes _ _ e)

-- ---- what was read fits
at_small : (ps : List (List ℕ)) (k : ℕ) → (get_or (map field_of ps) k none).size < 1000000000
unfolding none
at_small [] k = omega arith
at_small (p ∷ ps) zero = field_small p
at_small (p ∷ ps) (suc k) = at_small ps k

pub fitting : (ps : List (List ℕ)) → Fitting (seen_of (map field_of ps))
unfolding seen_of
fitting ps = record { a = at_small ps 0; b = at_small ps 1; c = at_small ps 2 }
