-- Words that a loop stores in a row.
use Prim.Native.Nat.{ℕ, ◌+◌, ◌≤◌}
use mathlib.Core.Path.{◌≡◌, ap₂}
use mathlib.Core.List.{List}
use lib.ListN.{set}
use Rattle.base.specs.Lists.{filled}
use Rattle.base.proofs.Loop.{iter_zero, iter_more, iter_done}

module _ (a : ℕ) (f : ℕ → ℕ) (l : List ℕ) where
  pub filled_zero : l ≡ filled a 0 f l
  unfolding filled
  filled_zero = iter_zero _ _

  pub filled_more : (i k z : ℕ) (x : List ℕ) → x ≡ filled a i f l → k ≡ a + i → z ≡ f i → set x k z ≡ filled a (i + 1) f l
  unfolding filled
  filled_more i k z x e p q = iter_more _ _ _ _ _ e (ap₂ (λ (k z : ℕ). set x k z) p q)

  pub filled_done : (i n : ℕ) (x : List ℕ) → x ≡ filled a i f l → i ≤ n → n ≤ i → x ≡ filled a n f l
  unfolding filled
  filled_done i n x e h k = iter_done _ _ _ _ _ e h k
