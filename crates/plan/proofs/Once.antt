-- One pass over the occurrences meets every slot in use: there are as many of the one as of the other, and no slot is met twice.
use mathlib.Core.Path.{◌≡◌, refl, sym, ap, subst, ◌∙◌}
use mathlib.Core.Logic.{⊎_elim}
use mathlib.Core.Bool.{Bool, true, false, ◌&&◌}
use mathlib.Core.List.{List}
use Prim.Native.Nat.{ℕ, zero, suc, ◌+◌, ◌-◌, ◌*◌, ◌/◌, ◌%◌, ◌≤◌, ◌<◌}
use native.Mathlib.Omega.{arith}
use native.Mathlib.Nat.{eq-or-lt_of_le, not-suc-le-zero}
use native.Mathlib.Numerals.{add-one}
use lib.Dec.{eqb, ltb}
use borrow.Author.Tests.{ltb-true, ltb-false, lt-ltb, le-ltb, eqb-true, eq-eqb, ne_eqb}
use Rattle.base.proofs.Loop.{pick_no, tested, eq_or_not}
use Rattle.base.proofs.Tests.{and_left, and_right, le_or_lt}
use Rattle.graph.specs.Bounds.{bit, ones}
use Rattle.graph.proofs.Ones.{ones_none, ones_set}
use Rattle.plan.specs.Words.{vertices_of, edges_of, variables_of, slots_of, domain_len_of, lit_of, place_of, position_of, variable_at, start_at, occurrence_at}
use Rattle.plan.specs.Check.{used_slot, slot_count}
use Rattle.plan.specs.Proper.{Filed, Listed}
use Rattle.plan.proofs.Count.{slots_counted}

-- ---- where a number falls among starting places
pub located : (f : ℕ → ℕ) (m p : ℕ) → f 0 ≤ p → p < f m → (k : ℕ) × (k < m) × (f k ≤ p) × (p < f (suc k))
located f zero p a b = absurd (omega arith)
located f (suc m) p a b = ⊎_elim
    (λ (h : f m ≤ p). (m, omega arith, h, b))
    (λ (h : p < f m). let (k, c, d, e) = located f m p a h in (k, omega arith, d, e))
    (le_or_lt (f m) p)

-- ---- of two places of one value in a rising part of a sequence, neither is first
climbs : (f : ℕ → ℕ) (a b : ℕ) → ((i : ℕ) → a ≤ i → suc i < b → f i < f (suc i)) → (i j : ℕ) → a ≤ i → i < j → j < b → f i < f j
climbs f a b h i zero l m n = absurd (omega arith)
climbs f a b h i (suc j) l m n = ⊎_elim
    (λ (e : i ≡ j). subst (λ (k : ℕ). f k < f (suc j)) (sym e) (h j (omega arith) n))
    (λ (k : i < j). let p = climbs f a b h i j l k (omega arith) in let q = h j (omega arith) n in omega arith)
    (eq-or-lt_of_le {n = i} {m = j} (omega arith))

pub rises_from : (f : ℕ → ℕ) (a b : ℕ) → ((i : ℕ) → a ≤ i → suc i < b → f i < f (suc i)) → (i j : ℕ) → a ≤ i → i < b → a ≤ j → j < b → f i ≡ f j → i ≡ j
rises_from f a b h i j c d e g q = ⊎_elim
    (λ (z : j ≤ i). ⊎_elim (λ (w : j ≡ i). sym w) (λ (w : j < i). absurd (let p = climbs f a b h j i e w d in omega arith)) (eq-or-lt_of_le {n = j} {m = i} z))
    (λ (z : i < j). absurd (let p = climbs f a b h i j c z g in omega arith))
    (le_or_lt j i)

-- ---- counting
and_none : (a : Bool) {b : Bool} → b ≡ false → (a && b) ≡ false
and_none true e = e
and_none false e = refl

bit_le : (x y : Bool) → (x ≡ true → y ≡ true) → bit x ≤ bit y
unfolding bit
bit_le false y h = omega arith
bit_le true y h = let e : bit y ≡ 1 = ap bit (h refl) in omega arith

ones_mono : (a b : ℕ → Bool) (m : ℕ) → ((s : ℕ) → s < m → a s ≡ true → b s ≡ true) → ones a m ≤ ones b m
unfolding ones
ones_mono a b zero h = omega arith
ones_mono a b (suc m) h = omega (arith, ones_mono a b m (λ s l. h s (omega arith)), bit_le (a m) (b m) (h m (omega arith)))

-- of two tests, one of which takes in what the other does, and no more of it
ones_full : (a b : ℕ → Bool) (m : ℕ) → ((s : ℕ) → s < m → a s ≡ true → b s ≡ true) → ones b m ≤ ones a m → (s : ℕ) → s < m → b s ≡ true → a s ≡ true
unfolding ones bit
ones_full a b zero h l s k u = absurd (not-suc-le-zero k)
ones_full a b (suc m) h l s k u =
    let less = ones_mono a b m (λ s k. h s (omega arith)) in
    let one = bit_le (a m) (b m) (h m (omega arith)) in
    ⊎_elim
    (λ (e : s ≡ m). tested (a s) (λ t. t) (λ t.
    let x : bit (a m) ≡ 0 = ap (λ (i : ℕ). bit (a i)) (sym e) ∙ ap bit t in
    let y : bit (b m) ≡ 1 = ap (λ (i : ℕ). bit (b i)) (sym e) ∙ ap bit u in
    absurd (omega arith)))
    (λ (e : s < m). ones_full a b m (λ s k. h s (omega arith)) (omega arith) s e u)
    (eq-or-lt_of_le {n = s} {m = m} (omega arith))

-- f takes the numbers below n to as many as pass the test, and g takes them back: each that passes is met
module _ (used : ℕ → Bool) (m n : ℕ) (f g : ℕ → ℕ) (there : (i : ℕ) → i < n → (f i < m) × (used (f i) ≡ true) × (g (f i) ≡ i)) (many : ones used m ≡ n) where
  image : ℕ → ℕ → Bool
  image k s = ltb (g s) k && eqb (f (g s)) s

  other : (k r : ℕ) → (r ≡ f k → ⊥) → image (suc k) r ≡ image k r
  unfolding image
  other k r ne = ⊎_elim
      (λ (q : g r ≡ k).
      let z : eqb (f (g r)) r ≡ false = ne_eqb (f (g r)) r (λ (w : f (g r) ≡ r). ne (sym w ∙ ap f q)) in
      and_none (ltb (g r) (suc k)) z ∙ sym (and_none (ltb (g r) k) z))
      (λ (q : g r ≡ k → ⊥). ap (λ (t : Bool). t && eqb (f (g r)) r) (⊎_elim
      (λ (h : k ≤ g r).
      let l : k < g r = ⊎_elim (λ (z : k ≡ g r). absurd (q (sym z))) (λ (z : k < g r). z) (eq-or-lt_of_le {n = k} {m = g r} h) in
      le-ltb (g r) (suc k) l ∙ sym (le-ltb (g r) k h))
      (λ (h : g r < k). lt-ltb (g r) (suc k) (omega arith) ∙ sym (lt-ltb (g r) k h))
      (le_or_lt k (g r))))
      (eq_or_not (g r) k)

  image_count : (k : ℕ) → k ≤ n → ones (image k) m ≡ k
  unfolding image
  image_count zero h = ones_none (image 0) m (λ s. ap (λ (t : Bool). t && eqb (f (g s)) s) (le-ltb (g s) 0 (omega arith)))
  image_count (suc k) h =
      let (a, u, e) = there k (omega arith) in
      let no : ltb (g (f k)) k ≡ false = le-ltb (g (f k)) k (omega arith) in
      let yes : ltb (g (f k)) (suc k) ≡ true = lt-ltb (g (f k)) (suc k) (omega arith) in
      ones_set (image k) (image (suc k)) m (f k) a (ap (λ (t : Bool). t && eqb (f (g (f k))) (f k)) no) (ap (λ (t : Bool). t && eqb (f (g (f k))) (f k)) yes ∙ eq-eqb (f (g (f k))) (f k) (ap f e)) (other k)
      ∙ ap (λ (j : ℕ). j + 1) (image_count k (omega arith)) ∙ add-one k

  inside : (s : ℕ) → s < m → image n s ≡ true → used s ≡ true
  unfolding image
  inside s h t =
      let e : f (g s) ≡ s = eqb-true (f (g s)) s (and_right (ltb (g s) n) (eqb (f (g s)) s) t) in
      let (a, u, b) = there (g s) (ltb-true (g s) n (and_left (ltb (g s) n) (eqb (f (g s)) s) t)) in
      ap used (sym e) ∙ u

  pub met : (s : ℕ) → s < m → used s ≡ true → (g s < n) × (f (g s) ≡ s)
  unfolding image
  met s h u =
      let t : image n s ≡ true = ones_full (image n) used m inside (omega (arith, image_count n (omega arith), many)) s h u in
      (ltb-true (g s) n (and_left (ltb (g s) n) (eqb (f (g s)) s) t), eqb-true (f (g s)) s (and_right (ltb (g s) n) (eqb (f (g s)) s) t))

-- ---- the slots in use
module _ (ws : List ℕ) (few : vertices_of ws ≤ 64) (edges : edges_of ws ≤ 128) (short : (v : ℕ) → v < vertices_of ws → domain_len_of ws v ≤ 32)
    (first : start_at ws 0 ≡ 0) (end : start_at ws (variables_of ws) ≡ slots_of ws) (count : slot_count ws ≡ slots_of ws) (listed : (k : ℕ) → k < variables_of ws → Listed ws k)
    (back : (k i : ℕ) → k < variables_of ws → start_at ws k ≤ i → i < start_at ws (suc k) → (place_of ws (occurrence_at ws i) ≡ 2 * k + lit_of ws (occurrence_at ws i) % 2) × (position_of ws (occurrence_at ws i) ≡ i)) where
  below : (s : ℕ) → used_slot ws s ≡ true → s < 2176
  unfolding used_slot
  below s u = tested (ltb s 2048)
      (λ t. let h = ltb-true s 2048 t in omega arith)
      (λ t. let h = ltb-true (s - 2048) (edges_of ws) (sym (pick_no _ _ t) ∙ u) in omega (arith, edges, ltb-false s 2048 t))

  there : (i : ℕ) → i < slots_of ws → (occurrence_at ws i < 2176) × (used_slot ws (occurrence_at ws i) ≡ true) × (position_of ws (occurrence_at ws i) ≡ i)
  there i h =
      let (k, a, b, c) = located (start_at ws) (variables_of ws) i (omega (arith, first)) (omega (arith, end)) in
      let u = (listed k a).used i b c in
      (below (occurrence_at ws i) u, u, (back k i a b c).1)

  pub all_filed : (s : ℕ) → used_slot ws s ≡ true → Filed ws s
  all_filed s u =
      let (w, e) = met (used_slot ws) 2176 (slots_of ws) (occurrence_at ws) (position_of ws) there (slots_counted ws few edges short ∙ count) s (below s u) u in
      let i : ℕ = position_of ws s in
      let (k, a, b, c) = located (start_at ws) (variables_of ws) i (omega (arith, first)) (omega (arith, end)) in
      let own : lit_of ws s / 2 ≡ variable_at ws k = ap (λ (o : ℕ). lit_of ws o / 2) (sym e) ∙ (listed k a).own i b c in
      let place : place_of ws s ≡ 2 * k + lit_of ws s % 2 = ap (place_of ws) (sym e) ∙ (back k i a b c).0 ∙ ap (λ (o : ℕ). 2 * k + lit_of ws o % 2) e in
      let half : place_of ws s / 2 ≡ k = omega arith in
      record {
        range = omega (arith, (listed k a).range);
        known = omega arith;
        variable = ap (variable_at ws) half ∙ sym own;
        sign = omega arith;
        within = w;
        there = e;
      }
