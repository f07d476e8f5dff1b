-- Which of document 01's refusals 1 to 6 apply to an input, each by its own test.
use Rattle.std.specs.Prelude.{◌≡◌, Bool, true, false, List, ℕ, ◌<◌, eqb, ℤ}
use Rattle.base.specs.Iter.{pick}
use Rattle.builder.specs.Input.{too_many, weight_outside, sizes_wrong, lit_count_wrong, lit_outside, end_wrong}

-- refusal k applies; of other numbers than 1 to 6 none does
unfoldable pub applies : List ℤ → ℕ → List ℤ → ℕ → ℕ → Bool
applies vs n es m k =
    pick (eqb k 1) (too_many vs n m)
    (pick (eqb k 2) (weight_outside vs n)
    (pick (eqb k 3) (sizes_wrong vs n)
    (pick (eqb k 4) (lit_count_wrong vs n)
    (pick (eqb k 5) (lit_outside vs n es m)
    (pick (eqb k 6) (end_wrong n es m)
    false)))))

-- "the lowest number that applies": k passes the test and no number below it does
pub record Lowest (t : ℕ → Bool) (k : ℕ) : Type 0 where
  pub passes : t k ≡ true
  pub below : (j : ℕ) → j < k → t j ≡ false

-- none of the six applies
pub record Clean (vs : List ℤ) (n : ℕ) (es : List ℤ) (m : ℕ) : Type 0 where
  pub counts : too_many vs n m ≡ false
  pub weights : weight_outside vs n ≡ false
  pub sizes : sizes_wrong vs n ≡ false
  pub lit_counts : lit_count_wrong vs n ≡ false
  pub lits : lit_outside vs n es m ≡ false
  pub ends : end_wrong n es m ≡ false
