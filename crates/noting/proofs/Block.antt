-- A loop seen through a part of what it changes: turns outside a block leave the part, turns inside are a loop over it.
use mathlib.Core.Path.{◌≡◌, refl, sym, ap, ◌∙◌}
use mathlib.Core.Logic.{◌⊎◌, inl, inr, ⊎_elim}
use Prim.Native.Nat.{ℕ, zero, suc, ◌+◌, ◌≤◌, ◌<◌}
use native.Mathlib.Omega.{arith}
use native.Mathlib.Nat.{eq-or-lt_of_le}
use Rattle.base.specs.Iter.{iter}

module _ {X Y : Type 0} (f : ℕ → X → X) (part : X → Y) (g : ℕ → Y → Y) (Fine : X → Type 0) (keeps : (s : ℕ) (y : X) → Fine y → Fine (f s y)) (a m : ℕ)
    (outside : (s : ℕ) (y : X) → Fine y → (s < a) ⊎ (a + m ≤ s) → part (f s y) ≡ part y)
    (inside : (j : ℕ) (y : X) → j < m → Fine y → part (f (a + j) y) ≡ g j (part y)) (x : X) (fine : Fine x) where
  kept : (n : ℕ) → Fine (iter f n x)
  unfolding iter
  kept zero = fine
  kept (suc n) = keeps n _ (kept n)

  before : (n : ℕ) → n ≤ a → part (iter f n x) ≡ part x
  unfolding iter
  before zero h = refl
  before (suc n) h = outside n _ (kept n) (inl (omega arith)) ∙ before n (omega arith)

  within : (j : ℕ) → j ≤ m → part (iter f (a + j) x) ≡ iter g j (part x)
  unfolding iter
  within zero h = let e : a + 0 ≡ a = omega arith in ap (λ (n : ℕ). part (iter f n x)) e ∙ before a (omega arith)
  within (suc j) h =
      let e : a + suc j ≡ suc (a + j) = omega arith in
      ap (λ (n : ℕ). part (iter f n x)) e ∙ inside j _ (omega arith) (kept (a + j)) ∙ ap (g j) (within j (omega arith))

  pub block : (n : ℕ) → a + m ≤ n → part (iter f n x) ≡ iter g m (part x)
  unfolding iter
  block zero h = let e : a + m ≡ 0 = omega arith in ap (λ (n : ℕ). part (iter f n x)) (sym e) ∙ within m (omega arith)
  block (suc n) h = ⊎_elim
      (λ (e : a + m ≡ suc n). ap (λ (n : ℕ). part (iter f n x)) (sym e) ∙ within m (omega arith))
      (λ (k : a + m < suc n). outside n _ (kept n) (inr (omega arith)) ∙ block n (omega arith))
      (eq-or-lt_of_le {n = a + m} {m = suc n} h)

-- two loops with equal turns
pub iter_same : {A : Type 0} (f g : ℕ → A → A) (n : ℕ) (x : A) → ((i : ℕ) (y : A) → i < n → f i y ≡ g i y) → iter f n x ≡ iter g n x
unfolding iter
iter_same f g zero x h = refl
iter_same f g (suc n) x h = ap (f n) (iter_same f g n x (λ i y k. h i y (omega arith))) ∙ h n _ (omega arith)
