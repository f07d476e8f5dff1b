-- A test over the numbers below n, as a loop that ends where one passes finds it.
use Prim.Native.Nat.{ℕ, zero, suc, ◌+◌, ◌<◌, ◌≤◌}
use native.Mathlib.Omega.{arith}
use native.Mathlib.Nat.{not-suc-le-zero, eq-or-lt_of_le, lt-suc_self, le_step}
use native.Mathlib.Numerals.{add-one}
use mathlib.Core.Path.{◌≡◌, refl, sym, ap, ap₂, ◌∙◌}
use mathlib.Core.Logic.{⊎_elim}
use mathlib.Core.Bool.{Bool, true, false, ◌||◌, false≢true, true≢false}
use denote.Param.Members.{Mut}
use Rattle.std.specs.declared.ops.Range.{Range}
use Rattle.std.specs.Fn.{Called}
use Rattle.std.specs.Iterator.{YieldsThen}
use Rattle.std.specs.List.{FoldsTo, list_any, range_with_len}
use Rattle.std.specs.Option.{MatchOption}
use Rattle.std.specs.Prelude.{List, Option}
use Rattle.std.proofs.iter.Yields.{nat_range_steps}
use Rattle.std.proofs.lemmas.Iterator.{YieldsList-from_range}
use Rattle.std.proofs.lemmas.Iterator.Search.{any_from_yields_List}
use Rattle.base.specs.Lists.{some}
use Rattle.base.proofs.Tests.{or_cases}

or_true : (a : Bool) → (a || true) ≡ true
or_true true = refl
or_true false = refl

module _ (t : ℕ → Bool) where
  pub some_zero : some t 0 ≡ false
  unfolding some
  some_zero = refl

  -- a test that passes below n is found
  pub some_found : (n i : ℕ) → i < n → t i ≡ true → some t n ≡ true
  unfolding some
  some_found zero i h e = absurd (not-suc-le-zero h)
  some_found (suc n) i h e = ⊎_elim
      (λ (k : i ≡ n). ap (λ (j : ℕ). some t n || t j) (sym k) ∙ ap (λ (b : Bool). some t n || b) e ∙ or_true (some t n))
      (λ (k : i < n). ap (λ (b : Bool). b || t n) (some_found n i k e))
      (eq-or-lt_of_le {n = i} {m = n} (omega arith))

  -- one turn more of a loop that has found none
  pub some_more : (i : ℕ) → some t i ≡ false → t i ≡ false → some t (i + 1) ≡ false
  unfolding some
  some_more i a b = rw add-one (ap (λ (x : Bool). x || t i) a ∙ b)

  -- and where it has ended
  pub some_done : (i n : ℕ) → some t i ≡ false → i ≤ n → n ≤ i → some t n ≡ false
  some_done i n a h k = let e : n ≡ i = omega arith in ap (some t) e ∙ a

  -- where none is found, each fails
  pub some_none : (n : ℕ) → some t n ≡ false → (i : ℕ) → i < n → t i ≡ false
  some_none n a i h = go (t i) refl
    where
      go : (b : Bool) → t i ≡ b → t i ≡ false
      go true e = absurd (true≢false (sym (some_found n i h e) ∙ a))
      go false e = e

  -- where one is found, there is one
  pub some_there : (n : ℕ) → some t n ≡ true → (i : ℕ) × (i < n) × (t i ≡ true)
  unfolding some
  some_there zero e = absurd (false≢true e)
  some_there (suc n) e = ⊎_elim
      (λ (a : some t n ≡ true). let (i, h, p) = some_there n a in (i, le_step h, p))
      (λ (a : t n ≡ true). (n, lt-suc_self n, a))
      (or_cases (some t n) (t n) e)

  -- where each fails, none is found
  pub some_all : (n : ℕ) → ((i : ℕ) → i < n → t i ≡ false) → some t n ≡ false
  unfolding some
  some_all zero h = refl
  some_all (suc n) h = ap (λ (b : Bool). b || t n) (some_all n (λ i k. h i (le_step k))) ∙ h n (lt-suc_self n)

or_false : (a : Bool) → (a || false) ≡ a
or_false true = refl
or_false false = refl

or_or : (a b c : Bool) → ((a || b) || c) ≡ (a || (b || c))
or_or true b c = refl
or_or false b c = refl

-- the first number apart
some_first : (u : ℕ → Bool) (n : ℕ) → some u (suc n) ≡ (u 0 || some (λ i. u (suc i)) n)
unfolding some
some_first u zero = sym (or_false (u 0))
some_first u (suc n) = ap (λ (b : Bool). b || u (suc n)) (some_first u n) ∙ or_or (u 0) (some (λ i. u (suc i)) n) (u (suc n))

-- the n numbers from a on, tested one after the other
list_some : (t u : ℕ → Bool) (n a : ℕ) → ((i : ℕ) → i < n → t (a + i) ≡ u i) → list_any t (range_with_len a n) ≡ some u n
unfolding some
list_some t u zero a e = refl
list_some t u (suc n) a e = ap₂ (λ (b c : Bool). b || c)
    (ap t (omega arith) ∙ e 0 (omega arith))
    (list_some t (λ i. u (suc i)) n (a + 1) (λ i h. ap t (omega arith) ∙ e (suc i) (omega arith)))
    ∙ sym (some_first u n)

-- `(0..n).any(..)`, where the closure computes the test
pub any_below : {F : Type 0} {g : Mut F (ℕ × Unit {0}) Bool} (t : ℕ → Bool) (n : ℕ) (u : Range ℕ) (f : F) (r : Bool)
    → (xs : List ℕ) × (o : Option ℕ) × (j : F) × YieldsThen nat_range_steps (record { start = 0; end = n }) xs o u × FoldsTo (λ p x q. Called g p (x, tt) false q) f xs j × MatchOption o (r ≡ false) (λ x. (r ≡ true) × ((h : F) × Called g j (x, tt) true h))
    → ((x : ℕ) (b : Bool) (q : F) → Called g f (x, tt) b q → (q ≡ f) × (b ≡ t x)) → r ≡ some t n
any_below t n u f r d k = any_from_yields_List t u f r d (YieldsList-from_range 0 n n refl (omega arith)) k ∙ list_some t t n 0 (λ i h. ap t (omega arith))
