-- Where a number stands among rising entries, as the loop finds it: the last entry below it counts.
use Prim.Native.Nat.{ℕ, zero, suc, ◌+◌, ◌<◌, ◌≤◌}
use native.Mathlib.Omega.{arith}
use native.Mathlib.Numerals.{add-one}
use mathlib.Core.Path.{◌≡◌, refl, sym, ◌∙◌, ap, ap₂}
use mathlib.Core.List.{List}
use lib.Dec.{ltb}
use borrow.Author.Tests.{lt-ltb, le-ltb}
use Rattle.base.specs.Iter.{pick}
use Rattle.base.proofs.Loop.{pick_ind, pick_yes, pick_no}
use Rattle.division.specs.Analysis.{place}
use Rattle.plan.specs.Words.{cell, domain_of}

module _ (f : ℕ → ℕ) (x : ℕ) where
  pub place_zero : 0 ≡ place f x 0
  unfolding place
  place_zero = refl

  pub place_more : (i k r : ℕ) → k ≡ place f x i → r ≡ pick (ltb (f i) x) (i + 1) k → r ≡ place f x (i + 1)
  unfolding place
  place_more i k r e h = let z : i + 1 ≡ suc i = omega arith in rw add-one (h ∙ ap₂ (λ (m n : ℕ). pick (ltb (f i) x) m n) z e)

  pub place_done : (i n k : ℕ) → k ≡ place f x i → i ≤ n → n ≤ i → k ≡ place f x n
  place_done i n k e h l = let z : i ≡ n = omega arith in e ∙ ap (place f x) z

  -- nothing is below 0
  pub place_none : (n : ℕ) → x ≡ 0 → 0 ≡ place f x n
  unfolding place
  place_none zero e = refl
  place_none (suc n) e = place_none n e ∙ sym (pick_no _ _ (le-ltb (f n) x (omega arith)))

-- a size past the last that a vertex can have is 0
size_past : (ws : List ℕ) (v j : ℕ) → 32 ≤ j → domain_of ws v j ≡ 0
unfolding cell
size_past ws v j h = pick_ind (λ (z : ℕ). z ≡ 0) (ltb v 64) _ _ (λ _. pick_no _ _ (le-ltb j 32 h)) (λ _. refl)

pub place_past : (ws : List ℕ) (v x n : ℕ) → (x ≡ 0 → ⊥) → 32 < n → n ≡ place (domain_of ws v) x n
unfolding place
place_past ws v x zero m h = absurd (omega (arith, h))
place_past ws v x (suc n) m h = sym (pick_yes _ _ (lt-ltb (domain_of ws v n) x (omega (arith, size_past ws v n (omega (arith, h)), m))))
