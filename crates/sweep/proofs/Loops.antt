-- What each loop of the crate keeps: the lowest that passes a test, a part of a list, what is handed on.
use Prim.Native.Nat.{ℕ, zero, suc, ◌+◌, ◌-◌, ◌%◌, ◌<◌, ◌≤◌}
use native.Mathlib.Omega.{arith}
use native.Mathlib.Nat.{le_step, lt-suc_self, eq-or-lt_of_le}
use native.Mathlib.Numerals.{add-one}
use mathlib.Core.Path.{◌≡◌, refl, sym, ap, ap₂, ◌∙◌}
use mathlib.Core.Logic.{⊎_elim}
use mathlib.Core.Bool.{Bool, true, false, true≢false, ◌||◌}
use mathlib.Core.List.{List, ◌∷◌, ◌++◌, append_assoc}
use lib.ListN.{length, get_or, take, drop, length-set, drop_of_length-le}
use lib.Seq.{drop-cons, take-nil, set_out, sets, sets-eq, take_at, drop_at, length-take-le}
use borrow.Author.Tests.{le-ltb}
use Rattle.base.specs.Iter.{iter}
use Rattle.base.specs.Lists.{filled}
use Rattle.base.proofs.Filled.{filled_length}
use Rattle.base.proofs.Loop.{pick_yes, pick_no, pick_ind, eq_or_not, tested, iter_ind}
use Rattle.division.specs.Regions.{lowest}
use Rattle.division.proofs.Phases.{lowest_true}
use Rattle.division.proofs.Views.{lowest_most}
use Rattle.calls.specs.Table.{unset_in, current_in, some_current, enter}
use Rattle.walks.specs.Written.{out_of, pushed}
use Rattle.walks.proofs.Written.{pushed_length}
use Rattle.sweep.specs.Sweep.{Handed, handing, handed, handed_at}

-- ---- what is stored past the end is lost
pub filled_all : (f : ℕ → ℕ) (l : List ℕ) (m n : ℕ) → length l ≤ m → m ≤ n → filled 0 n f l ≡ filled 0 m f l
unfolding filled iter
filled_all f l m zero h k = ap (λ (j : ℕ). filled 0 j f l) {x = 0} {y = m} (omega arith)
filled_all f l m (suc n) h k = ⊎_elim
    (λ (e : m ≡ suc n). ap (λ (j : ℕ). filled 0 j f l) (sym e))
    (λ (q : m < suc n). set_out (filled 0 n f l) (0 + n) (f n) (omega (arith, filled_length 0 f l n)) ∙ filled_all f l m n h (omega arith))
    (eq-or-lt_of_le {n = m} {m = suc n} k)

-- ---- the lowest that passes
module _ (t : ℕ → Bool) where
  pub lowest_is : (n p : ℕ) → p < n → ((q : ℕ) → q < p → t q ≡ false) → t p ≡ true → p ≡ lowest t n
  lowest_is n p h f e = ⊎_elim
      (λ (k : lowest t n ≡ p). sym k)
      (λ (k : lowest t n ≡ p → ⊥).
      let m = lowest_most t n p h e in
      absurd (true≢false (sym (lowest_true t n (omega arith)) ∙ f (lowest t n) (omega arith))))
      (eq_or_not (lowest t n) p)

  pub lowest_none : (n : ℕ) → ((q : ℕ) → q < n → t q ≡ false) → n ≡ lowest t n
  unfolding lowest
  lowest_none zero f = refl
  lowest_none (suc n) f =
      let e = lowest_none n (λ q h. f q (le_step h)) in
      sym (pick_no _ _ (le-ltb (lowest t n) n (omega arith)) ∙ pick_no _ _ (f n (lt-suc_self n)))

  pub lowest_le : (n : ℕ) → lowest t n ≤ n
  unfolding lowest
  lowest_le zero = omega arith
  lowest_le (suc n) = let h = lowest_le n in pick_ind (λ x. x ≤ suc n) _ _ _ (λ _. omega arith) (λ _. pick_ind (λ x. x ≤ suc n) _ _ _ (λ _. omega arith) (λ _. omega arith))

  pub lowest_below : (n q : ℕ) → q < lowest t n → t q ≡ false
  lowest_below n q h = tested (t q) (λ e. absurd (over e)) (λ e. e)
    where
      over : t q ≡ true → ⊥
      over e = let k = lowest_le n in let m = lowest_most t n q (omega arith) e in omega arith

-- ---- a part of a list
module _ (t l : List ℕ) (to i : ℕ) where
  pub part_end : to ≤ i → some_current t (take (to - i) (drop i l)) ≡ false
  unfolding some_current
  part_end h = let e : to - i ≡ 0 = omega arith in ap (λ (k : ℕ). some_current t (take k (drop i l))) e

  pub part_out : length l ≤ i → some_current t (take (to - i) (drop i l)) ≡ false
  unfolding some_current
  part_out h = ap (λ (m : List ℕ). some_current t (take (to - i) m)) (drop_of_length-le l h) ∙ ap (some_current t) (take-nil (to - i))

  pub part_more : i < to → i < length l →
      some_current t (take (to - i) (drop i l)) ≡ (current_in t (get_or l i 0) || some_current t (take (to - (i + 1)) (drop (i + 1) l)))
  unfolding some_current
  part_more h k =
      let e : to - i ≡ suc (to - (i + 1)) = omega arith in
      ap₂ (λ (n : ℕ) (m : List ℕ). some_current t (take n m)) e (drop-cons l i 0 k ∙ ap (λ (n : ℕ). get_or l i 0 ∷ drop n l) (sym (add-one i)))

  -- one turn of the loop: the literal is current, or it is not
  pub part_yes : i < to → i < length l → current_in t (get_or l i 0) ≡ true → some_current t (take (to - i) (drop i l)) ≡ true
  part_yes h k e = part_more h k ∙ ap (λ (b : Bool). b || some_current t (take (to - (i + 1)) (drop (i + 1) l))) e

  pub part_no : i < to → i < length l → current_in t (get_or l i 0) ≡ false →
      some_current t (take (to - i) (drop i l)) ≡ some_current t (take (to - (i + 1)) (drop (i + 1) l))
  part_no h k e = part_more h k ∙ ap (λ (b : Bool). b || some_current t (take (to - (i + 1)) (drop (i + 1) l))) e

-- the part of a list that was written there
pub part_written : (l vs : List ℕ) (at : ℕ) → at + length vs ≤ length l → take (at + length vs - at) (drop at (sets l at vs)) ≡ vs
part_written l vs at h =
    let n : at + length vs - at ≡ length vs = omega arith in
    ap₂ (λ (k : ℕ) (m : List ℕ). take k (drop at m)) n (sets-eq vs l at h)
    ∙ ap (λ (m : List ℕ). take (length vs) (drop at m)) (append_assoc (take at l) vs (drop (at + length vs) l))
    ∙ ap (take (length vs)) (drop_at (take at l) (vs ++ drop (at + length vs) l) at (length-take-le at l (omega arith)))
    ∙ take_at vs (drop (at + length vs) l) (length vs) refl

-- ---- what is handed on
module _ (t u l m : List ℕ) (at r lit : ℕ) where
  pub handed_yes : unset_in t lit ≡ true → u ≡ enter t lit → out_of m r ≡ pushed (lit % 4294967296) (out_of l at) → handing u m r ≡ handed lit (handing t l at)
  unfolding handed
  handed_yes a b c =
      let e : handing u m r ≡ record { table = enter t lit; out = pushed (lit % 4294967296) (out_of l at) } = λ i. record { table = b i; out = c i } in
      e ∙ sym (pick_yes _ _ a)

pub handed_no : (lit : ℕ) (h : Handed) → unset_in h.table lit ≡ false → h ≡ handed lit h
unfolding handed
handed_no lit h a = sym (pick_no _ _ a)

module _ (l : ℕ) (h : Handed) where
  pub handed_table : length (handed l h).table ≡ length h.table
  unfolding handed enter
  handed_table = pick_ind (λ (y : Handed). length y.table ≡ length h.table) _ _ _ (λ _. simp length-set) (λ _. refl)

  pub handed_list : length (handed l h).out.text ≡ length h.out.text
  unfolding handed
  handed_list = pick_ind (λ (y : Handed). length y.out.text ≡ length h.out.text) _ _ _ (λ _. pushed_length (l % 4294967296) h.out) (λ _. refl)

module _ (ws words : List ℕ) where
  pub place_table : (p : ℕ) (h : Handed) → length (handed_at ws words p h).table ≡ length h.table
  unfolding handed_at
  place_table p h = pick_ind (λ (y : Handed). length y.table ≡ length h.table) _ _ _ (λ _. handed_table _ h) (λ _. refl)

  pub place_list : (p : ℕ) (h : Handed) → length (handed_at ws words p h).out.text ≡ length h.out.text
  unfolding handed_at
  place_list p h = pick_ind (λ (y : Handed). length y.out.text ≡ length h.out.text) _ _ _ (λ _. handed_list _ h) (λ _. refl)

  pub all_table : (n : ℕ) (h : Handed) → length (iter (handed_at ws words) n h).table ≡ length h.table
  all_table n h = iter_ind (λ _ (y : Handed). length y.table ≡ length h.table) (handed_at ws words) h n refl (λ i x _ e. place_table i x ∙ e)

  pub all_list : (n : ℕ) (h : Handed) → length (iter (handed_at ws words) n h).out.text ≡ length h.out.text
  all_list n h = iter_ind (λ _ (y : Handed). length y.out.text ≡ length h.out.text) (handed_at ws words) h n refl (λ i x _ e. place_list i x ∙ e)
