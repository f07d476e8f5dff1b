-- Lists that are gathered in a loop, sums, and what holds of every element.
use Rattle.std.specs.Prelude.{ℕ, zero, suc, ◌+◌, Bool, false, ◌||◌, List, [], ◌∷◌, ◌++◌, set}
use Rattle.base.specs.Iter.{iter, pick}

pub data Every (P : ℕ → Type 0) : List ℕ → Type 0 where
  none : Every P []
  more : {x : ℕ} {l : List ℕ} → P x → Every P l → Every P (x ∷ l)

-- the lists f 0, f 1, up to f (n - 1), one after the other
unfoldable pub collect : (ℕ → List ℕ) → ℕ → List ℕ
collect f zero = []
collect f (suc n) = collect f n ++ f n

-- f 0, f 1, up to f (n - 1)
unfoldable pub tab : (ℕ → ℕ) → ℕ → List ℕ
tab f zero = []
tab f (suc n) = f 0 ∷ tab (λ i. f (suc i)) n

-- the sum of w over those below n that b takes in
unfoldable pub total : (ℕ → Bool) → (ℕ → ℕ) → ℕ → ℕ
total b w zero = 0
total b w (suc n) = total b w n + pick (b n) (w n) 0

-- some number below n passes the test
unfoldable pub some : (ℕ → Bool) → ℕ → Bool
some t zero = false
some t (suc n) = some t n || t n

-- those of f 0, f 1, up to f (n - 1) that pass the test, in order
unfoldable pub chosen : (ℕ → Bool) → (ℕ → ℕ) → ℕ → List ℕ
chosen t f n = collect (λ i. pick (t i) (f i ∷ []) []) n

-- f 0, f 1, up to f (n - 1), stored from place a on
unfoldable pub filled : ℕ → ℕ → (ℕ → ℕ) → List ℕ → List ℕ
filled a n f l = iter (λ i l. set l (a + i) (f i)) n l
