-- The range tests, from the comparisons that the code makes: an i32 is read as `to_z w32 (of_z w32 z)`.
use mathlib.Core.Path.{◌≡◌, refl, sym, ap, ◌∙◌, subst}
use mathlib.Core.Bool.{true, false, true≢false, false≢true}
use Prim.Native.Nat.{ℕ, suc, ◌≤◌}
use lib.IntN.{ℤ, pos, negsuc, nat_abs}
use lib.Signed.{lt_z, le_z, mag}
use borrow.Author.Tests.{leb-true, leb-false, ltb-true}
use native.Mathlib.Nat.{not-suc-le-zero}
use mir.Syntax.{w32}
use mir.Val.{SFits, to_z, of_z}
use mir.Facts.{to_z-of_z}
use Rattle.base.specs.Range.{in_range, to_nat}

abbrev read : ℤ → ℤ
read z = to_z w32 (of_z w32 z)

module _ (most n : ℤ) (f : SFits w32 n) (g : SFits w32 most) where
  below_out : le_z (pos 0) n ≡ false → in_range most n ≡ false
  unfolding in_range
  below_out = go n
    where
      go : (z : ℤ) → le_z (pos 0) z ≡ false → in_range most z ≡ false
      go (pos a) e = absurd (not-suc-le-zero (leb-false 0 a e))
      go (negsuc a) e = refl

  above_in : le_z (pos 0) n ≡ true → le_z n most ≡ in_range most n
  unfolding in_range
  above_in = go n
    where
      go : (z : ℤ) → le_z (pos 0) z ≡ true → le_z z most ≡ in_range most z
      go (pos a) e = refl
      go (negsuc a) e = absurd (false≢true e)

  pub out : le_z (pos 0) (read n) ≡ false → le_z (pos 0) (read n) ≡ in_range most n
  out e = e ∙ sym (below_out (sym (ap (λ (z : ℤ). le_z (pos 0) z) (to_z-of_z f)) ∙ e))

  pub in_order : le_z (pos 0) (read n) ≡ true → le_z (read n) (read most) ≡ in_range most n
  in_order e =
      ap (λ (z : ℤ). le_z z (read most)) (to_z-of_z f) ∙ ap (le_z n) (to_z-of_z g)
      ∙ above_in (sym (ap (λ (z : ℤ). le_z (pos 0) z) (to_z-of_z f)) ∙ e)

module _ (n : ℤ) (f : SFits w32 n) where
  pub nat_zero : lt_z (read n) (pos 0) ≡ true → 0 ≡ to_nat n
  unfolding to_nat
  nat_zero e = go n (sym (ap (λ (z : ℤ). lt_z z (pos 0)) (to_z-of_z f)) ∙ e)
    where
      go : (z : ℤ) → lt_z z (pos 0) ≡ true → 0 ≡ to_nat z
      go (pos a) e = absurd (not-suc-le-zero (ltb-true a 0 e))
      go (negsuc a) e = refl

  nat_same : lt_z (read n) (pos 0) ≡ false → nat_abs n ≡ to_nat n
  unfolding to_nat
  nat_same e = go n (sym (ap (λ (z : ℤ). lt_z z (pos 0)) (to_z-of_z f)) ∙ e)
    where
      go : (z : ℤ) → lt_z z (pos 0) ≡ false → nat_abs z ≡ to_nat z
      go (pos a) e = refl
      go (negsuc a) e = absurd (true≢false e)

  pub nat_is : lt_z (read n) (pos 0) ≡ false → nat_abs (read n) ≡ to_nat n
  nat_is e = ap nat_abs (to_z-of_z f) ∙ nat_same e

-- a number that a call answered, read back
pub reads_back : (z : ℤ) → suc (mag z) ≤ 2147483648 → to_z w32 (of_z w32 z) ≡ z
reads_back z h = to_z-of_z {w = w32} (record { sfits = h })

-- what a passed test says of the natural number
pub in_range_nat : (most : ℕ) (n : ℤ) → in_range (pos most) n ≡ true → to_nat n ≤ most
unfolding in_range to_nat
in_range_nat most (pos a) e = leb-true a most e
in_range_nat most (negsuc a) e = absurd (false≢true e)
