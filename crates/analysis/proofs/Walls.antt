-- Step 1's walls: the lowest disconnected edge of each pair of regions, as the loop over the edges keeps it.
use Prim.Native.Nat.{ℕ, zero, suc, ◌+◌, ◌-◌, ◌<◌, ◌≤◌}
use native.Mathlib.Omega.{arith}
use native.Mathlib.Numerals.{add-one}
use mathlib.Core.Path.{◌≡◌, refl, sym, ap, ap₂, ◌∙◌, subst}
use mathlib.Core.Logic.{◌⊎◌, inl, inr}
use mathlib.Core.Bool.{Bool, true, false, ◌&&◌, ◌||◌}
use mathlib.Core.List.{List}
use lib.Dec.{eqb}
use lib.ListN.{get_or, set, length, replicate, length-set, length-replicate}
use lib.Seq.{get_or-set_same, get_or-set_other}
use borrow.Author.Tests.{eqb-true, eqb-false}
use Rattle.base.proofs.Loop.{eq_or_not, tested}
use Rattle.base.proofs.Tests.{and_left, and_right, or_cases}
use Rattle.division.specs.Regions.{lowest}
use Rattle.division.specs.Analysis.{matches, lid, rid}
use Rattle.analysis.specs.Placed.{Words, on}
use Rattle.analysis.specs.First.{pair_place, Walled}
use Rattle.division.proofs.Views.{lowest_zero, lowest_more, lowest_here}

place_low : (a b : ℕ) → pair_place a b < 4096
unfolding pair_place
place_low a b = omega arith

pub low : (p a b : ℕ) → p ≡ pair_place a b → p < 4096
low p a b e = omega (arith, e, place_low a b)

-- what stands after a store is what was stored or what stood there
set_keeps : (P : ℕ → Type 0) (l : List ℕ) (i j v : ℕ) → i < length l → P v → P (get_or l j 0) → P (get_or (set l i v) j 0)
set_keeps P l i j v h a b =
    elim (eq_or_not j i) [
      | inl k ↦ subst P (sym (ap (λ r. get_or (set l i v) r 0) k ∙ get_or-set_same l i v 0 h)) a
      | inr k ↦ subst P (sym (get_or-set_other l i j v 0 k)) b
    ]

set_here : (l : List ℕ) (i j v : ℕ) → i < length l → j ≡ i → get_or (set l i v) j 0 ≡ v
set_here l i j v h k = ap (λ r. get_or (set l i v) r 0) k ∙ get_or-set_same l i v 0 h

zeros : (n i : ℕ) → get_or {A = ℕ} (replicate n 0) i 0 ≡ 0
zeros zero i = refl
zeros (suc n) zero = refl
zeros (suc n) (suc i) = zeros n i

-- no number below n passes the test
pub lowest_nothing : (t : ℕ → Bool) (n : ℕ) → ((i : ℕ) → i < n → t i ≡ true → ⊥) → lowest t n ≡ n
lowest_nothing t zero f = lowest_zero t
lowest_nothing t (suc n) f = simp add-one at (lowest_more t n (lowest_nothing t n (λ i h. f i (omega (arith, h)))) (tested (t n) (λ e. absurd (f n (omega arith) e)) (λ e. e)))

-- a and b are c and d, in one of the two orders
pairs : (a b c d : ℕ) → ((eqb a c && eqb b d) || (eqb a d && eqb b c)) ≡ true → ((c ≡ a) × (d ≡ b)) ⊎ ((c ≡ b) × (d ≡ a))
pairs a b c d e =
    elim (or_cases (eqb a c && eqb b d) (eqb a d && eqb b c) e) [
      | inl k ↦ inl (sym (eqb-true a c (and_left _ _ k)), sym (eqb-true b d (and_right (eqb a c) _ k)))
      | inr k ↦ inr (sym (eqb-true b c (and_right (eqb a d) _ k)), sym (eqb-true a d (and_left _ _ k)))
    ]

-- an edge at most h is kept at a place
pub record Kept (h e : ℕ) : Type 0 where
  pub some : 0 < e
  pub least : e ≤ h + 1

-- what holds once the edges from k on, of the first n, are passed
pub record Marks (x : Words) (n k : ℕ) (l : List ℕ) : Type 0 where
  pub whole : length l ≡ 4096
  pub below : (i : ℕ) → get_or l i 0 ≤ n
  pub kept : (g h : ℕ) → k ≤ h → h < n → on matches x g h ≡ true → Kept h (get_or l (pair_place (on lid x g) (on rid x g)) 0)

module _ (x : Words) where
  joins : (g h : ℕ) → on matches x g h ≡ true → ((on lid x g ≡ on lid x h) × (on rid x g ≡ on rid x h)) ⊎ ((on lid x g ≡ on rid x h) × (on rid x g ≡ on lid x h))
  unfolding matches
  joins g h e = pairs (on lid x h) (on rid x h) (on lid x g) (on rid x g) (and_right (eqb (get_or x.noted h 0) 1) _ e)

  shut : (g h : ℕ) → on matches x g h ≡ true → get_or x.noted h 0 ≡ 1
  unfolding matches
  shut g h e = eqb-true _ _ (and_left _ _ e)

  pub marks_none : (n : ℕ) (l : List ℕ) → l ≡ replicate 4096 0 → Marks x n n l
  marks_none n l e = record {
    whole = ap length e ∙ length-replicate {0} {A = ℕ} 4096 0;
    below = λ i. subst (λ r. get_or r i 0 ≤ n) (sym e) (omega (arith, zeros 4096 i));
    kept = λ g h a b m. absurd (omega (arith, a, b));
  }

  -- an edge that is not disconnected matches none
  pub marks_same : (n k h : ℕ) (l r : List ℕ) → Marks x n k l → h ≡ k - 1 → eqb (get_or x.noted h 0) 1 ≡ false → r ≡ l → Marks x n h r
  marks_same n k h l r m u t e = subst (Marks x n h) (sym e) (record { whole = m.whole; below = m.below; kept = kept })
    where
      kept : (g i : ℕ) → h ≤ i → i < n → on matches x g i ≡ true → Kept i (get_or l (pair_place (on lid x g) (on rid x g)) 0)
      kept g i a b o =
          elim (eq_or_not i h) [
            | inl q ↦ absurd (eqb-false (get_or x.noted h 0) 1 t (subst (λ j. get_or x.noted j 0 ≡ 1) q (shut g i o)))
            | inr q ↦ m.kept g i (omega (arith, a, q, u)) b o
          ]

  -- edge h, kept at the places of its regions in both orders
  module _ (n k h a b p q : ℕ) (l : List ℕ) (m : Marks x n k l) (low-k : 0 < k) (high-k : k ≤ n) (u : h ≡ k - 1) (ea : a ≡ on lid x h) (eb : b ≡ on rid x h)
      (ep : p ≡ pair_place a b) (ev : q ≡ pair_place b a) where
    below_p : p < length l
    below_p = omega (arith, low p a b ep, m.whole)

    below_q : q < length (set l p k)
    below_q = omega (arith, low q b a ev, m.whole, length-set l p k)

    -- whatever stands at place j, the two stores keep it
    both : (P : ℕ → Type 0) (j : ℕ) → P k → P (get_or l j 0) → P (get_or (set (set l p k) q k) j 0)
    both P j v w = set_keeps P (set l p k) q j k below_q v (set_keeps P l p j k below_p v w)

    straight : (g : ℕ) → on lid x g ≡ on lid x h → on rid x g ≡ on rid x h → Kept h (get_or (set (set l p k) q k) (pair_place (on lid x g) (on rid x g)) 0)
    straight g i j =
        let v : Kept h k = record { some = low-k; least = omega (arith, u) } in
        set_keeps (Kept h) (set l p k) q _ k below_q v (subst (Kept h) (sym (set_here l p _ k below_p (ap₂ pair_place (i ∙ sym ea) (j ∙ sym eb) ∙ sym ep))) v)

    across : (g : ℕ) → on lid x g ≡ on rid x h → on rid x g ≡ on lid x h → Kept h (get_or (set (set l p k) q k) (pair_place (on lid x g) (on rid x g)) 0)
    across g i j =
        let v : Kept h k = record { some = low-k; least = omega (arith, u) } in
        subst (Kept h) (sym (set_here (set l p k) q _ k below_q (ap₂ pair_place (i ∙ sym eb) (j ∙ sym ea) ∙ sym ev))) v

    held : (g i : ℕ) → h ≤ i → i < n → on matches x g i ≡ true → Kept i (get_or (set (set l p k) q k) (pair_place (on lid x g) (on rid x g)) 0)
    held g i s t o =
        elim (eq_or_not i h) [
          | inl e ↦ subst (λ r. Kept r (get_or (set (set l p k) q k) (pair_place (on lid x g) (on rid x g)) 0)) (sym e)
              (elim (joins g h (subst (λ r. on matches x g r ≡ true) e o)) [ inl w ↦ straight g w.0 w.1 | inr w ↦ across g w.0 w.1 ])
          | inr e ↦
              let v : Kept i k = record { some = low-k; least = omega (arith, s, u) } in
              both (Kept i) _ v (m.kept g i (omega (arith, s, e, u)) t o)
        ]

    pub marks_more : (r : List ℕ) → r ≡ set (set l p k) q k → Marks x n h r
    marks_more r e = subst (Marks x n h) (sym e) (record { whole = simp length-set m.whole; below = λ j. both (λ (i : ℕ). i ≤ n) j high-k (m.below j); kept = held })

  pub marks_done : (n k : ℕ) (l : List ℕ) → Marks x n k l → k ≤ 0 → Walled x n l
  marks_done n k l m z = record { below = m.below; some = λ g h b o. (m.kept g h (omega (arith, z)) b o).some; least = λ g h b o. (m.kept g h (omega (arith, z)) b o).least }

  -- what the place of edge g's regions keeps: nothing where no edge matches it, else the lowest edge, if that matches
  module _ (n g p e a b : ℕ) (l : List ℕ) (f : Walled x n l) (ea : a ≡ on lid x g) (eb : b ≡ on rid x g) (u : p ≡ pair_place a b) (k : e ≡ get_or l p 0) where
    kept_is : e ≡ get_or l (pair_place (on lid x g) (on rid x g)) 0
    kept_is = k ∙ ap (λ i. get_or l i 0) (u ∙ ap₂ pair_place ea eb)

    pub none_kept : e ≡ 0 → n ≡ lowest (on matches x g) n
    none_kept z = sym (lowest_nothing (on matches x g) n (λ h i m. omega (arith, f.some g h i m, kept_is, z)))

    pub kept_low : e ≤ n
    kept_low = omega (arith, k, f.below p)

    pub kept_lowest : (h : ℕ) → (e ≡ 0 → ⊥) → h ≡ e - 1 → on matches x g h ≡ true → h ≡ lowest (on matches x g) n
    kept_lowest h z v t =
        lowest_here (on matches x g) h n (lowest_nothing (on matches x g) h (λ i j m. omega (arith, f.least g i (omega (arith, j, kept_low, v, z)) m, kept_is, j, v))) t (omega (arith, kept_low, v, z))
