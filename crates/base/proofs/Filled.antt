-- Words that are stored in a row: what stands in their places, and what stands elsewhere.
use Prim.Native.Nat.{ℕ, zero, suc, ◌+◌, ◌-◌, ◌<◌, ◌≤◌, min}
use native.Mathlib.Omega.{arith}
use native.Mathlib.Nat.{not-suc-le-zero, eq-or-lt_of_le}
use native.Mathlib.Numerals.{add-one}
use mathlib.Core.Path.{◌≡◌, refl, sym, ap, ap₂, ◌∙◌}
use mathlib.Core.Logic.{◌⊎◌, inl, inr, ⊎_elim}
use mathlib.Core.List.{List, [], ◌∷◌, ◌++◌}
use lib.ListN.{length, get_or, set, length-set, replicate, drop}
use lib.Seq.{get_or-set_same, get_or-set_other}
use Rattle.base.specs.Iter.{iter}
use Rattle.base.specs.Lists.{filled}
use Rattle.std.proofs.lemmas.List.{set_past}
use Rattle.std.proofs.lemmas.List.Edits.{fill_none, fill_more}
use Rattle.base.proofs.Tests.{le_or_lt}

-- what `fill` leaves: each is x
pub all_filled : (x n : ℕ) (m : List ℕ) → length m ≡ n → ((k : ℕ) → k < n → get_or m k 0 ≡ x) → m ≡ replicate n x
all_filled x zero [] e h = refl
all_filled x (suc n) [] e h = absurd (omega arith)
all_filled x zero (y ∷ m) e h = absurd (omega arith)
all_filled x (suc n) (y ∷ m) e h =
    ap₂ (λ (z : ℕ) (l : List ℕ). z ∷ l) (h 0 (omega arith)) (all_filled x n m (omega arith) (λ k i. h (suc k) (omega arith)))

-- and after the first n the rest
pub filled_with : (x n : ℕ) (l : List ℕ) → n ≤ length l → filled 0 n (λ _. x) l ≡ replicate n x ++ drop n l
unfolding filled iter
filled_with x zero l h = fill_none l x
filled_with x (suc n) l h =
    let z : 0 + n ≡ n = omega arith in
    ap (λ (j : ℕ). set (filled 0 n (λ _. x) l) j x) z ∙ ap (λ (k : List ℕ). set k n x) (filled_with x n l (omega arith)) ∙ fill_more n x l h ∙ rw add-one refl

module _ (a : ℕ) (f : ℕ → ℕ) (l : List ℕ) where
  pub filled_length : (n : ℕ) → length (filled a n f l) ≡ length l
  unfolding filled iter
  filled_length zero = refl
  filled_length (suc n) = length-set (filled a n f l) (a + n) (f n) ∙ filled_length n

  past : (n : ℕ) → length l ≤ a + n → filled a n f l ≡ filled a (suc n) f l
  unfolding filled iter
  past n h = let e = filled_length n in sym (set_past (filled a n f l) (a + n) (f n) (omega arith))

  -- what is stored past the end is not
  pub filled_room : (n : ℕ) → filled a (min (length l - a) n) f l ≡ filled a n f l
  filled_room zero = ap (λ (k : ℕ). filled a k f l) (omega arith)
  filled_room (suc n) = ⊎_elim
      (λ (h : a + suc n ≤ length l). ap (λ (k : ℕ). filled a k f l) (omega arith))
      (λ (h : length l < a + suc n).
      let k : min (length l - a) (suc n) ≡ min (length l - a) n = omega arith in
      ap (λ (i : ℕ). filled a i f l) k ∙ filled_room n ∙ past n (omega arith))
      (le_or_lt (a + suc n) (length l))

  pub filled_in : (n i : ℕ) → i < n → a + n ≤ length l → get_or (filled a n f l) (a + i) 0 ≡ f i
  unfolding filled iter
  filled_in zero i h r = absurd (not-suc-le-zero h)
  filled_in (suc n) i h r = ⊎_elim
      (λ (e : i ≡ n). ap (λ (j : ℕ). get_or (set (filled a n f l) (a + n) (f n)) (a + j) 0) e ∙ get_or-set_same (filled a n f l) (a + n) (f n) 0 (omega (arith, filled_length n)) ∙ ap f (sym e))
      (λ (k : i < n). get_or-set_other (filled a n f l) (a + n) (a + i) (f n) 0 (λ (e : a + i ≡ a + n). omega arith) ∙ filled_in n i k (omega arith))
      (eq-or-lt_of_le {n = i} {m = n} (omega arith))

  pub filled_out : (n i : ℕ) → (i < a) ⊎ (a + n ≤ i) → get_or (filled a n f l) i 0 ≡ get_or l i 0
  unfolding filled iter
  filled_out zero i h = refl
  filled_out (suc n) i h =
      get_or-set_other (filled a n f l) (a + n) i (f n) 0 (λ (e : i ≡ a + n). ⊎_elim (λ (k : i < a). omega arith) (λ (k : a + suc n ≤ i). omega arith) h)
      ∙ filled_out n i (⊎_elim (λ (k : i < a). inl k) (λ (k : a + suc n ≤ i). inr (omega arith)) h)
