-- Loops over the first entries of a list.
use Prim.Native.Nat.{ℕ, zero, suc, ◌+◌, ◌<◌, ◌≤◌}
use native.Mathlib.Nat.{not-suc-le-zero, le_step, lt-suc_self, le_antisymm}
use native.Mathlib.Numerals.{add-one}
use native.Mathlib.Omega.{arith}
use mathlib.Core.Path.{◌≡◌, refl, sym, ◌∙◌, ap, ap₂, subst}
use mathlib.Core.Logic.{⊎_elim}
use mathlib.Core.Bool.{Bool, true, false, ◌&&◌, true≢false}
use mathlib.Core.List.{List, ◌++◌}
use lib.Dec.{ltb}
use lib.ListN.{length, get_or, set, length-set, drop, replicate, take}
use borrow.Author.Tests.{lt-ltb, le-ltb}
use lib.Seq.{get_or-set_same, get_or-set_other, length-take-le}
use Rattle.base.specs.Iter.{iter}
use Rattle.base.proofs.Loop.{iter_ind, eq_or_not}
use Rattle.base.proofs.Filled.{all_filled}
use Rattle.std.proofs.lemmas.List.Edits.{fill_none, fill_more}
use denote.Param.Members.{Mut}
use Rattle.std.specs.declared.ops.Range.{Range}
use Rattle.std.specs.Fn.{Called}
use Rattle.std.specs.Iterator.{YieldsThen}
use Rattle.std.specs.List.{FoldsTo, list_all, range_with_len}
use Rattle.std.specs.Option.{MatchOption}
use Rattle.std.specs.Prelude.{Option}
use Rattle.std.proofs.iter.Yields.{nat_range_steps}
use Rattle.std.proofs.lemmas.Iterator.{YieldsList-from_range}
use Rattle.std.proofs.lemmas.Iterator.Search.{all_from_yields_List}
use Rattle.graph.specs.Lists.{put, mapped, every}
use Rattle.base.proofs.Tests.{and_left, and_right}

pub and_both : (a b : Bool) → a ≡ true → b ≡ true → (a && b) ≡ true
and_both true true p q = refl
and_both true false p q = q
and_both false b p q = p

pub and_no : (a b : Bool) → b ≡ false → (a && b) ≡ false
and_no true b e = e
and_no false b e = refl

pub and_no' : (a b : Bool) → a ≡ false → (a && b) ≡ false
and_no' true b e = absurd (true≢false e)
and_no' false b e = refl

and_true : (a : Bool) → (a && true) ≡ a
and_true true = refl
and_true false = refl

and_and : (a b c : Bool) → ((a && b) && c) ≡ (a && (b && c))
and_and true b c = refl
and_and false b c = refl

-- the lists of a loop over the first entries, at place i
record Puts (f : ℕ → ℕ → ℕ) (l : List ℕ) (i k : ℕ) (x : List ℕ) : Type 0 where
  len : length x ≡ length l
  done : i < k → get_or x i 0 ≡ f i (get_or l i 0)
  left : k ≤ i → get_or x i 0 ≡ get_or l i 0

module _ (f : ℕ → ℕ → ℕ) (l : List ℕ) (i : ℕ) where
  puts : (n : ℕ) → n ≤ length l → Puts f l i n (mapped f n l)
  unfolding put
  puts n h =
      iter_ind (Puts f l i) (put f) l n (record { len = refl; done = λ k. absurd (not-suc-le-zero k); left = λ _. refl })
      (λ k x lt p. record {
        len = length-set x k _ ∙ p.len;
        done = λ ik. ⊎_elim (λ (e : i ≡ k).
            let z : get_or x k 0 ≡ get_or l k 0 = subst (λ j. get_or x j 0 ≡ get_or l j 0) e (p.left (omega arith)) in
            subst (λ j. get_or (set x k (f k (get_or x k 0))) j 0 ≡ f j (get_or l j 0)) (sym e) (get_or-set_same x k _ 0 (omega (arith, p.len)) ∙ ap (f k) z))
            (λ (e : i ≡ k → ⊥). get_or-set_other x k i _ 0 e ∙ p.done (omega arith)) (eq_or_not i k);
        left = λ ki. get_or-set_other x k i _ 0 (λ (e : i ≡ k). omega arith) ∙ p.left (omega arith);
      })

  pub mapped_at : (n : ℕ) → n ≤ length l → i < n → get_or (mapped f n l) i 0 ≡ f i (get_or l i 0)
  mapped_at n h k = (puts n h).done k

  -- the others stay
  pub mapped_past : (n : ℕ) → n ≤ length l → n ≤ i → get_or (mapped f n l) i 0 ≡ get_or l i 0
  mapped_past n h k = (puts n h).left k

pub mapped_length : (f : ℕ → ℕ → ℕ) (l : List ℕ) (n : ℕ) → length (mapped f n l) ≡ length l
unfolding put
mapped_length f l n = iter_ind (λ _ x. length x ≡ length l) (put f) l n refl (λ k x _ p. length-set x k _ ∙ p)

-- the first n entries by `fill`, and the rest
mapped_with : (x n : ℕ) (l : List ℕ) → n ≤ length l → mapped (λ _ _. x) n l ≡ replicate n x ++ drop n l
unfolding iter put
mapped_with x zero l h = fill_none l x
mapped_with x (suc n) l h = ap (λ (k : List ℕ). set k n x) (mapped_with x n l (omega arith)) ∙ fill_more n x l h ∙ rw add-one refl

pub mapped_fill : (x n : ℕ) (l m : List ℕ) → n ≤ length l → length m ≡ length (take n l) →
    ((k : ℕ) → k < length (take n l) → get_or m k 0 ≡ x) → m ++ drop n l ≡ mapped (λ _ _. x) n l
mapped_fill x n l m h e k =
    let t : length (take n l) ≡ n = length-take-le n l h in
    ap (λ (r : List ℕ). r ++ drop n l) (all_filled x n m (e ∙ t) (λ i j. k i (omega arith))) ∙ sym (mapped_with x n l h)

pub every_at : (b : ℕ → Bool) (n : ℕ) → every b n ≡ true → (i : ℕ) → i < n → b i ≡ true
unfolding every
every_at b zero h i k = absurd (not-suc-le-zero k)
every_at b (suc n) h i k =
    ⊎_elim (λ (e : i ≡ n). subst (λ j. b j ≡ true) (sym e) (and_right (every b n) (b n) h))
    (λ (e : i ≡ n → ⊥). every_at b n (and_left (every b n) (b n) h) i (omega arith)) (eq_or_not i n)

pub every_all : (b : ℕ → Bool) (n : ℕ) → ((i : ℕ) → i < n → b i ≡ true) → every b n ≡ true
unfolding every
every_all b zero h = refl
every_all b (suc n) h = and_both _ _ (every_all b n (λ i k. h i (le_step k))) (h n (lt-suc_self n))

-- the first number apart
every_first : (u : ℕ → Bool) (n : ℕ) → every u (suc n) ≡ (u 0 && every (λ i. u (suc i)) n)
unfolding every
every_first u zero = sym (and_true (u 0))
every_first u (suc n) = ap (λ (b : Bool). b && u (suc n)) (every_first u n) ∙ and_and (u 0) (every (λ i. u (suc i)) n) (u (suc n))

-- the n numbers from a on, tested one after the other
list_every : (t u : ℕ → Bool) (n a : ℕ) → ((i : ℕ) → i < n → t (a + i) ≡ u i) → list_all t (range_with_len a n) ≡ every u n
unfolding every
list_every t u zero a e = refl
list_every t u (suc n) a e = ap₂ (λ (b c : Bool). b && c)
    (ap t (omega arith) ∙ e 0 (omega arith))
    (list_every t (λ i. u (suc i)) n (a + 1) (λ i h. ap t (omega arith) ∙ e (suc i) (omega arith)))
    ∙ sym (every_first u n)

-- `(0..n).all(..)`, where the closure computes the test
pub all_below : {F : Type 0} {g : Mut F (ℕ × Unit {0}) Bool} (t : ℕ → Bool) (n : ℕ) (u : Range ℕ) (f : F) (r : Bool)
    → (xs : List ℕ) × (o : Option ℕ) × (j : F) × YieldsThen nat_range_steps (record { start = 0; end = n }) xs o u × FoldsTo (λ p x q. Called g p (x, tt) true q) f xs j × MatchOption o (r ≡ true) (λ x. (r ≡ false) × ((h : F) × Called g j (x, tt) false h))
    → ((x : ℕ) (b : Bool) (q : F) → Called g f (x, tt) b q → (q ≡ f) × (b ≡ t x)) → r ≡ every t n
all_below t n u f r d k = all_from_yields_List t u f r d (YieldsList-from_range 0 n n refl (omega arith)) k ∙ list_every t t n 0 (λ i h. ap t (omega arith))

-- a store of what f gives
pub put_as : (f : ℕ → ℕ → ℕ) (i : ℕ) (l : List ℕ) (x : ℕ) → x ≡ f i (get_or l i 0) → set l i x ≡ put f i l
unfolding put
put_as f i l x e = ap (λ (y : ℕ). set l i y) e
