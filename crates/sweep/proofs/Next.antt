-- The next proposed place, and that a loop may leave out the turns at places that are not proposed.
use Prim.Native.Nat.{ℕ, zero, suc, ◌+◌, ◌*◌, ◌/◌, ◌%◌, ◌^◌, ◌<◌, ◌≤◌, min}
use native.Mathlib.Omega.{arith}
use native.Mathlib.Nat.{le_step, lt-suc_self, eq-or-lt_of_le}
use mathlib.Core.Path.{◌≡◌, sym, ap, ap₂, ◌∙◌, subst}
use mathlib.Core.Logic.{⊎_elim}
use mathlib.Core.Bool.{Bool, true, false, ◌&&◌}
use mathlib.Core.List.{List}
use lib.Count.{count_trailing_zeros}
use lib.Dec.{ltb, leb}
use lib.ListN.{length, get_or, get_or-eq_default}
use borrow.Author.Tests.{lt-ltb, le-ltb, ltb-true, le-leb, leb-true}
use borrow.Author.Count.{below_more}
use Rattle.base.specs.Iter.{iter}
use Rattle.base.proofs.Loop.{pick_no}
use Rattle.base.proofs.Tests.{and_left, and_right, and_rest, and_no, and_next, and_either, le_or_lt}
use Rattle.division.specs.Regions.{lowest}
use Rattle.division.proofs.Phases.{lowest_true}
use Rattle.calls.specs.Table.{false_in}
use Rattle.plan.specs.Words.{unique_lit_at}
use Rattle.reasons.specs.Words.{has_bit}
use Rattle.reasons.proofs.Marks.{mark_at, no_bit, bit_below, bit_at}
use Rattle.sweep.specs.Sweep.{proposed_at, next_proposed, false_at, Handed, handed, handed_at}
use Rattle.sweep.proofs.Loops.{lowest_is, lowest_none, lowest_le, lowest_below}

-- ---- no place past the last mark, or past the words, is proposed
module _ (words : List ℕ) (p : ℕ) where
  past_not : 4352 ≤ p → proposed_at words p ≡ false
  unfolding proposed_at
  past_not h = sym (and_no (mark_at words p) (le-ltb p 4352 h))

  out_not : length words ≤ p / 64 → proposed_at words p ≡ false
  unfolding proposed_at
  out_not h =
      and_either {a = ltb p 4352} (λ _.
      ap (λ (w : ℕ). has_bit w (p % 64)) (get_or-eq_default words 0 {n = p / 64} h) ∙ no_bit (p % 64))

-- a place that is proposed has a mark
pub proposed_low : (words : List ℕ) (p : ℕ) → proposed_at words p ≡ true → p < 4352
unfolding proposed_at
proposed_low words p e = ltb-true p 4352 (and_left (ltb p 4352) (mark_at words p) e)

-- no place of from, .., to - 1 is proposed
pub record NoneIn (words : List ℕ) (from to : ℕ) : Type 0 where
  pub at : (k : ℕ) → from ≤ k → k < to → proposed_at words k ≡ false

-- ---- the next place
module _ (words : List ℕ) (from : ℕ) where
  unfoldable here : ℕ → Bool
  here p = leb from p && proposed_at words p

  none_here : (r : ℕ) → NoneIn words from r → (k : ℕ) → k < r → here k ≡ false
  unfolding here
  none_here r f k h = and_either {a = leb from k} {b = proposed_at words k} (λ e. f.at k (leb-true from k e) h)

  pub next_is : (n r : ℕ) → from ≤ r → r < n → NoneIn words from r → proposed_at words r ≡ true →
      r ≡ next_proposed words from n
  unfolding next_proposed here
  next_is n r a h f e =
      lowest_is here n r h (none_here r f)
      (sym (and_next {a = leb from r} (proposed_at words r) true (le-leb from r a) (sym e)))

  pub next_none : (n : ℕ) → NoneIn words from n → n ≡ next_proposed words from n
  unfolding next_proposed here
  next_none n f = lowest_none here n (none_here n f)

-- what a next place tells
pub record Next (words : List ℕ) (from n r : ℕ) : Type 0 where
  pub most : r ≤ n
  pub least : from ≤ n → from ≤ r
  pub below : NoneIn words from r
  pub on : r < n → proposed_at words r ≡ true

next : (words : List ℕ) (from n : ℕ) → Next words from n (next_proposed words from n)
unfolding next_proposed here
next words from n =
    let t = here words from in
    let r = lowest t n in
    record {
      most = lowest_le t n;
      least = λ (h : from ≤ n). ⊎_elim
          (λ (e : r ≡ n). omega arith)
          (λ (l : r < n). leb-true from r (and_left (leb from r) (proposed_at words r) (lowest_true t n l)))
          (eq-or-lt_of_le {n = r} {m = n} (lowest_le t n));
      below = record {
        at = λ k a h.
            and_rest (leb from k) (proposed_at words k) (le-leb from k a) (lowest_below t n k h);
      };
      on = λ l. and_right (leb from r) (proposed_at words r) (lowest_true t n l);
    }

pub next_told : {words : List ℕ} {from n r : ℕ} → r ≡ next_proposed words from n → Next words from n r
next_told {words} {from} {n} e = subst (Next words from n) (sym e) (next words from n)

-- two runs without a proposed place, one after the other
pub none_join : {words : List ℕ} {from mid to : ℕ} → NoneIn words from mid → NoneIn words mid to → NoneIn words from to
none_join {words} {from} {mid} {to} f g =
    record { at = λ k a h. ⊎_elim (λ l. g.at k l h) (λ l. f.at k a l) (le_or_lt mid k) }

-- a run that ends where it starts, or before
pub none_yet : (words : List ℕ) (from to : ℕ) → to ≤ from → NoneIn words from to
none_yet words from to h = record { at = λ k a l. absurd (omega arith) }

-- a shorter run
pub none_less : {words : List ℕ} {from to : ℕ} (end : ℕ) → NoneIn words from to → end ≤ to → NoneIn words from end
none_less end f h = record { at = λ k a l. f.at k a (omega arith) }

-- ---- the marks of a word
module _ (words : List ℕ) (p : ℕ) where
  abbrev bit : ℕ
  bit = p % 64 + count_trailing_zeros 64 (get_or words (p / 64) 0 / 2 ^ (p % 64))

  -- from place p up to the lowest bit or the word's end
  pub marks_none : (to : ℕ) → to ≤ 64 * (p / 64) + bit → to ≤ 64 * (p / 64) + 64 → NoneIn words p to
  unfolding proposed_at
  marks_none to a b = record {
    at = λ k u h.
        let e : k / 64 ≡ p / 64 = omega arith in
        and_either {a = ltb k 4352} (λ _.
        ap (λ (i : ℕ). has_bit (get_or words i 0) (k % 64)) e
        ∙ bit_below (get_or words (p / 64) 0) (p % 64) (k % 64) (omega arith) (omega arith));
  }

  marks_on : p < 4352 → bit < 64 → proposed_at words (64 * (p / 64) + bit) ≡ true
  unfolding proposed_at
  marks_on h b =
      let q = 64 * (p / 64) + bit in
      let e : q / 64 ≡ p / 64 = omega arith in
      let f : q % 64 ≡ bit = omega arith in
      sym (and_next (mark_at words q) true (lt-ltb q 4352 (omega arith))
      (sym (ap₂ (λ (i j : ℕ). has_bit (get_or words i 0) j) e f ∙ bit_at (get_or words (p / 64) 0) (p % 64) b)))

  -- a bit is found
  pub next_marked : (from n b : ℕ) → from ≤ p → p < 4352 → p < n → NoneIn words from p → b ≡ bit → b < 64 →
      min (64 * (p / 64) + b) n ≡ next_proposed words from n
  next_marked from n b a h l f e g =
      let q = 64 * (p / 64) + bit in
      let x = none_join f (marks_none q (omega arith) (omega arith)) in
      ⊎_elim
      (λ (m : n ≤ q). let z : min (64 * (p / 64) + b) n ≡ n = omega arith in z ∙ next_none words from n (none_less n x m))
      (λ (m : q < n).
      let z : min (64 * (p / 64) + b) n ≡ q = omega arith in
      z ∙ next_is words from n q (omega arith) m x (marks_on h (omega arith)))
      (le_or_lt n q)

-- none is proposed past the marks
pub next_past : (words : List ℕ) (from m n : ℕ) → min n (64 * min (length words) 68) ≤ m → NoneIn words from m →
    n ≡ next_proposed words from n
next_past words from m n h f = next_none words from n (record {
  at = λ k a l. ⊎_elim
      (λ (q : m ≤ k). ⊎_elim
      (λ (r : 4352 ≤ k). past_not words k r)
      (λ (r : k < 4352). out_not words k (omega arith))
      (le_or_lt 4352 k))
      (λ (q : k < m). f.at k a q)
      (le_or_lt m k);
})

-- ---- turns left out
module _ {A : Type 0} (f : ℕ → A → A) (a : A) where
  iter_idle : (m n : ℕ) → m ≤ n → ((k : ℕ) (x : A) → m ≤ k → k < n → x ≡ f k x) → iter f m a ≡ iter f n a
  unfolding iter
  iter_idle m zero h g = ap (λ (j : ℕ). iter f j a) {x = m} {y = 0} (omega arith)
  iter_idle m (suc n) h g = ⊎_elim
      (λ (e : m ≡ suc n). ap (λ (j : ℕ). iter f j a) e)
      (λ (q : m < suc n).
      iter_idle m n (omega arith) (λ k x u v. g k x u (le_step v))
      ∙ g n (iter f n a) (omega arith) (lt-suc_self n))
      (eq-or-lt_of_le {n = m} {m = suc n} h)

  -- from one proposed place to the next, where a turn at any other place changes nothing
  pub next_turn : (words : List ℕ) → ((k : ℕ) (x : A) → proposed_at words k ≡ false → x ≡ f k x) →
      (m n r : ℕ) (x : A) → m ≤ n → r ≡ next_proposed words m n → x ≡ iter f m a → x ≡ iter f r a
  next_turn words idle m n r x h e i =
      let t = next_told e in
      i ∙ iter_idle m r (t.least h) (λ k y u v. idle k y (t.below.at k u v))

-- ---- the places before the next, as the loops of the crate pass over them
module _ (ws words t : List ℕ) where
  false_not : (k : ℕ) → proposed_at words k ≡ false → false_at ws words t k ≡ false
  unfolding false_at
  false_not k e = sym (and_no (false_in t (unique_lit_at ws k)) e)

  pub false_start : {n r : ℕ} → Next words 0 n r → (k : ℕ) → k < r → false_at ws words t k ≡ false
  false_start x k h = false_not k (x.below.at k (omega arith) h)

  pub false_more : {p n r : ℕ} → ((k : ℕ) → k < p → false_at ws words t k ≡ false) → false_at ws words t p ≡ false →
      Next words (p + 1) n r → (k : ℕ) → k < r → false_at ws words t k ≡ false
  false_more {p} f e x k h = ⊎_elim
      (λ (q : p + 1 ≤ k). false_not k (x.below.at k q h))
      (λ (q : k < p + 1). below_more (λ j. false_at ws words t j ≡ false) p f e k q)
      (le_or_lt (p + 1) k)

pub handed_idle : (ws words : List ℕ) (k : ℕ) (x : Handed) → proposed_at words k ≡ false → x ≡ handed_at ws words k x
unfolding handed_at
handed_idle ws words k x e = sym (pick_no (handed (unique_lit_at ws k) x) x e)
