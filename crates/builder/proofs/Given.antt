-- What stands in the words of a built plan.
use mathlib.Core.Path.{◌≡◌, refl, sym, ap, subst, ◌∙◌}
use mathlib.Core.Logic.{◌⊎◌, inl, inr, ⊎_elim}
use mathlib.Core.Bool.{Bool}
use mathlib.Core.List.{List}
use Prim.Native.Nat.{ℕ, zero, suc, pred, ◌+◌, ◌*◌, ◌≤◌, ◌<◌}
use native.Mathlib.Omega.{arith}
use native.Mathlib.Nat.{not-suc-le-zero, eq-or-lt_of_le}
use lib.Dec.{ltb}
use lib.IntN.{ℤ}
use lib.ListN.{length, get_or, replicate, length-replicate}
use borrow.Author.Tests.{lt-ltb, ltb-true}
use Rattle.base.specs.Iter.{iter}
use Rattle.base.specs.Lists.{filled}
use Rattle.base.specs.Range.{to_nat}
use Rattle.base.proofs.Loop.{pick_yes, pick_no, tested}
use Rattle.base.proofs.Filled.{filled_length, filled_in, filled_out}
use Rattle.plan.specs.Words.{word, entry, cell}
use Rattle.builder.specs.Input.{weight_at, len_at, size_at, lit_at, edge_lit_at}
use Rattle.builder.specs.Index.{indexed}
use Rattle.plan.proofs.Count.{pred_few}
use Rattle.builder.specs.Build.{rows, header, given, closed, totals, with_index}

-- ---- rows
module _ (from : ℕ) (count : ℕ → ℕ) (f : ℕ → ℕ → ℕ) (l : List ℕ) where
  rows_length : (n : ℕ) → length (rows from count f n l) ≡ length l
  unfolding rows iter
  rows_length zero = refl
  rows_length (suc n) = filled_length (from + 32 * n) (f n) (rows from count f n l) (count n) ∙ rows_length n

  rows_out : (n i : ℕ) → ((v : ℕ) → v < n → count v ≤ 32) → (i < from) ⊎ (from + 32 * n ≤ i) → get_or (rows from count f n l) i 0 ≡ get_or l i 0
  unfolding rows iter
  rows_out zero i c h = refl
  rows_out (suc n) i c h =
      let k = c n (omega arith) in
      filled_out (from + 32 * n) (f n) (rows from count f n l) (count n) i (⊎_elim (λ (x : i < from). inl (omega arith)) (λ (x : from + 32 * suc n ≤ i). inr (omega arith)) h)
      ∙ rows_out n i (λ v b. c v (omega arith)) (⊎_elim (λ (x : i < from). inl x) (λ (x : from + 32 * suc n ≤ i). inr (omega arith)) h)

  rows_in : (n v j : ℕ) → ((v : ℕ) → v < n → count v ≤ 32) → v < n → j < count v → from + 32 * n ≤ length l → get_or (rows from count f n l) (from + 32 * v + j) 0 ≡ f v j
  unfolding rows iter
  rows_in zero v j c h k r = absurd (not-suc-le-zero h)
  rows_in (suc n) v j c h k r =
      let d = c n (omega arith) in
      ⊎_elim
      (λ (e : v ≡ n).
      let k' : j < count n = subst (λ (i : ℕ). j < count i) e k in
      ap (λ (i : ℕ). get_or (filled (from + 32 * n) (count n) (f n) (rows from count f n l)) (from + 32 * i + j) 0) e
      ∙ filled_in (from + 32 * n) (f n) (rows from count f n l) (count n) j k' (omega (arith, rows_length n))
      ∙ ap (λ (i : ℕ). f i j) (sym e))
      (λ (b : v < n).
      let g = c v (omega arith) in
      filled_out (from + 32 * n) (f n) (rows from count f n l) (count n) (from + 32 * v + j) (inl (omega arith))
      ∙ rows_in n v j (λ u x. c u (omega arith)) b k (omega arith))
      (eq-or-lt_of_le {n = v} {m = n} (omega arith))

-- ---- the words as they were given
module _ (vs : List ℤ) (n : ℕ) (es : List ℤ) (m : ℕ) (a b : Bool) (fn : n ≤ 64) (fm : m ≤ 128) (fl : (v : ℕ) → v < n → len_at vs v ≤ 32) where
  abbrev w₀ : List ℕ
  w₀ = filled 0 4 (header n m a b) (replicate 15241 0)

  abbrev w₁ : List ℕ
  w₁ = filled 8 n (λ v. to_nat (weight_at vs v)) w₀

  abbrev w₂ : List ℕ
  w₂ = filled 72 n (len_at vs) w₁

  abbrev w₃ : List ℕ
  w₃ = rows 136 (len_at vs) (λ v j. to_nat (size_at vs v j)) n w₂

  abbrev w₄ : List ℕ
  w₄ = rows 2184 (λ v. pred (len_at vs v)) (λ v j. to_nat (lit_at vs v j)) n w₃

  abbrev w : List ℕ
  w = given vs n es m a b

  l₀ : length w₀ ≡ 15241
  l₀ = filled_length 0 (header n m a b) (replicate 15241 0) 4 ∙ length-replicate {0} {A = ℕ} 15241 0

  l₁ : length w₁ ≡ 15241
  l₁ = filled_length 8 (λ v. to_nat (weight_at vs v)) w₀ n ∙ l₀

  l₂ : length w₂ ≡ 15241
  l₂ = filled_length 72 (len_at vs) w₁ n ∙ l₁

  l₃ : length w₃ ≡ 15241
  l₃ = rows_length 136 (len_at vs) (λ v j. to_nat (size_at vs v j)) w₂ n ∙ l₂

  l₄ : length w₄ ≡ 15241
  l₄ = rows_length 2184 (λ v. pred (len_at vs v)) (λ v j. to_nat (lit_at vs v j)) w₃ n ∙ l₃

  pub given_length : length w ≡ 15241
  unfolding given
  given_length = filled_length 4232 (λ g. to_nat (edge_lit_at es g)) w₄ m ∙ l₄

  fp : (v : ℕ) → v < n → pred (len_at vs v) ≤ 32
  fp v h = pred_few (len_at vs v) (fl v h)

  -- from each stage to the last
  past₄ : (i : ℕ) → i < 4232 → get_or w i 0 ≡ get_or w₄ i 0
  unfolding given
  past₄ i h = filled_out 4232 (λ g. to_nat (edge_lit_at es g)) w₄ m i (inl h)

  past₃ : (i : ℕ) → i < 2184 → get_or w i 0 ≡ get_or w₃ i 0
  past₃ i h = past₄ i (omega arith) ∙ rows_out 2184 (λ v. pred (len_at vs v)) (λ v j. to_nat (lit_at vs v j)) w₃ n i fp (inl h)

  past₂ : (i : ℕ) → i < 136 → get_or w i 0 ≡ get_or w₂ i 0
  past₂ i h = past₃ i (omega arith) ∙ rows_out 136 (len_at vs) (λ v j. to_nat (size_at vs v j)) w₂ n i fl (inl h)

  past₁ : (i : ℕ) → i < 72 → get_or w i 0 ≡ get_or w₁ i 0
  past₁ i h = past₂ i (omega arith) ∙ filled_out 72 (len_at vs) w₁ n i (inl h)

  past₀ : (i : ℕ) → i < 8 → get_or w i 0 ≡ get_or w₀ i 0
  past₀ i h = past₁ i (omega arith) ∙ filled_out 8 (λ v. to_nat (weight_at vs v)) w₀ n i (inl h)

  pub given_header : (i : ℕ) → i < 4 → get_or w i 0 ≡ header n m a b i
  given_header i h = let e : i ≡ 0 + i = omega arith in past₀ i (omega arith) ∙ ap (λ (k : ℕ). get_or w₀ k 0) e ∙ filled_in 0 (header n m a b) (replicate 15241 0) 4 i h (omega (arith, length-replicate {0} {A = ℕ} 15241 0))

  pub given_weight : (v : ℕ) → v < n → get_or w (8 + v) 0 ≡ to_nat (weight_at vs v)
  given_weight v h = past₁ (8 + v) (omega arith) ∙ filled_in 8 (λ v. to_nat (weight_at vs v)) w₀ n v h (omega (arith, l₀))

  pub given_len : (v : ℕ) → v < n → get_or w (72 + v) 0 ≡ len_at vs v
  given_len v h = past₂ (72 + v) (omega arith) ∙ filled_in 72 (len_at vs) w₁ n v h (omega (arith, l₁))

  pub given_size : (v j : ℕ) → v < n → j < len_at vs v → get_or w (136 + 32 * v + j) 0 ≡ to_nat (size_at vs v j)
  given_size v j h k =
      let c = fl v h in
      past₃ (136 + 32 * v + j) (omega arith) ∙ rows_in 136 (len_at vs) (λ v j. to_nat (size_at vs v j)) w₂ n v j fl h k (omega (arith, l₂))

  pub given_lit : (v j : ℕ) → v < n → j < pred (len_at vs v) → get_or w (2184 + 32 * v + j) 0 ≡ to_nat (lit_at vs v j)
  given_lit v j h k =
      let c = fp v h in
      past₄ (2184 + 32 * v + j) (omega arith) ∙ rows_in 2184 (λ v. pred (len_at vs v)) (λ v j. to_nat (lit_at vs v j)) w₃ n v j fp h k (omega (arith, l₃))

  pub given_edge : (g : ℕ) → g < m → get_or w (4232 + g) 0 ≡ to_nat (edge_lit_at es g)
  unfolding given
  given_edge g h = filled_in 4232 (λ g. to_nat (edge_lit_at es g)) w₄ m g h (omega (arith, l₄))

-- ---- with the index
module _ (ws : List ℕ) (len : length ws ≡ 15241) where
  abbrev mid : List ℕ
  mid = filled 4 3 (totals (indexed ws)) ws

  pub kept_word : (i : ℕ) → i < 4360 → (i < 4) ⊎ (7 ≤ i) → word (with_index ws) i ≡ word ws i
  unfolding with_index
  kept_word i h c = filled_out 4360 (λ j. get_or (closed (indexed ws)) j 0) mid 10881 i (inl h) ∙ filled_out 4 (totals (indexed ws)) ws 3 i c

  pub total_word : (i : ℕ) → i < 3 → word (with_index ws) (4 + i) ≡ totals (indexed ws) i
  unfolding with_index
  total_word i h = filled_out 4360 (λ j. get_or (closed (indexed ws)) j 0) mid 10881 (4 + i) (inl (omega arith)) ∙ filled_in 4 (totals (indexed ws)) ws 3 i h (omega arith)

  pub index_word : (i : ℕ) → i < 10881 → word (with_index ws) (4360 + i) ≡ get_or (closed (indexed ws)) i 0
  unfolding with_index
  index_word i h = filled_in 4360 (λ j. get_or (closed (indexed ws)) j 0) mid 10881 i h (omega (arith, filled_length 4 (totals (indexed ws)) ws 3))

-- ---- fields
pub entry_in : (from n : ℕ) (ws : List ℕ) (i : ℕ) → i < n → entry from n ws i ≡ word ws (from + i)
unfolding entry
entry_in from n ws i h = pick_yes _ _ (lt-ltb i n h)

pub entry_same : (from n : ℕ) (ws us : List ℕ) (i : ℕ) → (i < n → word ws (from + i) ≡ word us (from + i)) → entry from n ws i ≡ entry from n us i
unfolding entry
entry_same from n ws us i h = tested (ltb i n)
    (λ t. pick_yes _ _ t ∙ h (ltb-true i n t) ∙ sym (pick_yes _ _ t))
    (λ t. pick_no _ _ t ∙ sym (pick_no _ _ t))

pub cell_in : (from : ℕ) (ws : List ℕ) (v j : ℕ) → v < 64 → j < 32 → cell from ws v j ≡ word ws (from + 32 * v + j)
unfolding cell
cell_in from ws v j h k = pick_yes _ _ (lt-ltb v 64 h) ∙ pick_yes _ _ (lt-ltb j 32 k)
