-- On a proper plan the index is right: the search finds each distinct variable, its occurrences are the slots of that
-- variable, and `note` is `note_lit`.
use mathlib.Core.Path.{◌≡◌, refl, sym, ap, subst, ◌∙◌}
use mathlib.Core.Logic.{⊎_elim}
use mathlib.Core.Bool.{Bool, true, false, true≢false}
use mathlib.Core.List.{List}
use Prim.Native.Nat.{ℕ, zero, suc, ◌+◌, ◌-◌, ◌/◌, ◌≤◌, ◌<◌}
use native.Mathlib.Omega.{arith}
use native.Mathlib.Numerals.{add-one}
use lib.Dec.{ltb}
use borrow.Author.Tests.{lt-ltb, ltb-true, ltb-false, eq-eqb, eqb-true}
use Rattle.base.specs.Iter.{iter, pick}
use Rattle.base.proofs.Loop.{pick_ind, pick_no, tested}
use Rattle.base.proofs.Tests.{le_or_lt, and_left, and_right, and_next}
use Rattle.plan.specs.Words.{edges_of, variables_of, lit_of, place_of, position_of, variable_at, start_at, occurrence_at}
use Rattle.plan.specs.Check.{used_slot}
use Rattle.plan.specs.Proper.{Listed, ProperWords}
use Rattle.noting.specs.declared.note.Span.{Span}
use Rattle.noting.specs.Note.{Noting, note_slot, level_pushed, halved, searched_in, place_from_first, place_from_last, is_at, place_in, known, note_at, note, is_of, note_lit}
use Rattle.noting.proofs.Rising.{rises, rises_once, locate, loop_over}

-- 2 to the power m
unfoldable pow : ℕ → ℕ
pow zero = 1
pow (suc m) = pow m + pow m

-- a loop whose test never passes
idle_loop : {A : Type 0} (f : ℕ → A → A) (b : ℕ → Bool) (n : ℕ) (x : A) → ((s : ℕ) → b s ≡ false) → iter (λ s y. pick (b s) (f s y) y) n x ≡ x
unfolding iter
idle_loop f b zero x h = refl
idle_loop f b (suc n) x h = pick_no _ _ (h n) ∙ idle_loop f b n x h

module _ (ws : List ℕ) (ends : List (List ℕ)) (p : ProperWords ws ends) where
  -- a slot in use is one of the 2176
  pub slot_below : (s : ℕ) → used_slot ws s ≡ true → s < 2176
  unfolding used_slot
  slot_below s u = tested (ltb s 2048)
      (λ t. let h = ltb-true s 2048 t in omega arith)
      (λ t. let h = ltb-true (s - 2048) (edges_of ws) (sym (pick_no _ _ t) ∙ u) in omega (arith, p.fine.fits, ltb-false s 2048 t))

  variables_rise : (i j : ℕ) → i < j → j < variables_of ws → variable_at ws i < variable_at ws j
  variables_rise = rises (variable_at ws) (variables_of ws) p.distinct

  pub one_place : (i j : ℕ) → i < variables_of ws → j < variables_of ws → variable_at ws i ≡ variable_at ws j → i ≡ j
  one_place = rises_once (variable_at ws) (variables_of ws) variables_rise

  module _ (k : ℕ) (h : k < variables_of ws) where
    -- the variable lies in the part that is left, which is smaller than 2 to the power m
    record Around (m : ℕ) (q : Span) : Type 0 where
      low : q.low ≤ k
      high : k ≤ q.high
      last : q.high ≤ variables_of ws
      small : q.high - q.low < pow m

    halve_around : (i m : ℕ) (q : Span) → Around (suc m) q → Around m (halved ws (variable_at ws k) i q)
    unfolding halved pow
    halve_around i m q a =
        pick_ind (Around m) (ltb q.low q.high) _ _
        (λ t. let lt = ltb-true q.low q.high t in
        let d = q.low + (q.high - q.low) / 2 in
        pick_ind (Around m) (ltb (variable_at ws d) (variable_at ws k)) _ _
        (λ u. record {
          low = let w = ltb-true _ _ u in ⊎_elim (λ (z : k ≤ d). absurd (not_over d z (omega (arith, a.last)) w)) (λ (z : d < k). omega arith) (le_or_lt k d);
          high = a.high;
          last = a.last;
          small = omega (arith, a.small);
        })
        (λ u. record {
          low = a.low;
          high = let w = ltb-false (variable_at ws d) (variable_at ws k) u in ⊎_elim (λ (z : k ≤ d). z) (λ (z : d < k). absurd (let r = variables_rise d k z h in omega arith)) (le_or_lt k d);
          last = omega (arith, a.last);
          small = omega (arith, a.small);
        }))
        (λ t. let ge = ltb-false q.low q.high t in record { low = a.low; high = a.high; last = a.last; small = omega (arith, pos m) })
      where
        not_over : (d : ℕ) → k ≤ d → d < variables_of ws → variable_at ws d < variable_at ws k → ⊥
        not_over d z l w = ⊎_elim (λ (e : d ≤ k). let eq : d ≡ k = omega arith in let v : variable_at ws d ≡ variable_at ws k = ap (variable_at ws) eq in omega arith) (λ (e : k < d). let r = variables_rise k d e l in omega arith) (le_or_lt d k)

        pos : (m : ℕ) → 0 < pow m
        pos zero = omega arith
        pos (suc m) = let z = pos m in omega arith

    around : (i m : ℕ) → i + m ≡ 12 → Around m (iter (halved ws (variable_at ws k)) i (record { low = 0; high = variables_of ws }))
    unfolding iter pow
    around zero m e =
        let w : m ≡ 12 = omega arith in
        subst (λ (n : ℕ). Around n (record { low = 0; high = variables_of ws })) (sym w)
        (record { low = omega arith; high = omega arith; last = omega arith; small = omega (arith, p.few.0) })
    around (suc i) m e = halve_around i m _ (around i (suc m) (omega arith))

    search_found : searched_in ws (variable_at ws k) ≡ k
    unfolding searched_in pow
    search_found = let a = around 12 0 refl in omega (arith, a.low, a.high, a.small)

    -- a place that has the variable is its place
    looked : (j : ℕ) → is_at ws j (variable_at ws k) ≡ true → j ≡ k
    looked j e = one_place j k (ltb-true _ _ (and_left _ _ e)) h (eqb-true _ _ (and_right (ltb j (variables_of ws)) _ e))

    pub place_found : place_in ws (variable_at ws k) ≡ k
    unfolding place_in
    place_found =
        pick_ind (λ (j : ℕ). j ≡ k) (is_at ws (place_from_first ws (variable_at ws k)) (variable_at ws k)) _ _ (looked _)
        (λ _. pick_ind (λ (j : ℕ). j ≡ k) (is_at ws (place_from_last ws (variable_at ws k)) (variable_at ws k)) _ _ (looked _) (λ _. search_found))

    pub is_known : known ws (variable_at ws k) ≡ true
    unfolding known
    is_known = sym (and_next _ _ (lt-ltb _ _ (subst (λ (n : ℕ). n < variables_of ws) (sym place_found) h)) (sym (eq-eqb _ _ (ap (variable_at ws) place_found))))

    -- the occurrences of distinct variable k
    abbrev at : ℕ → ℕ
    at i = occurrence_at ws (start_at ws k + i)

    abbrev count : ℕ
    count = start_at ws (k + 1) - start_at ws k

    w : Listed ws k
    w = p.listed k h

    inside : (i : ℕ) → i < count → start_at ws k + i < start_at ws (suc k)
    inside i l = let e : start_at ws (k + 1) ≡ start_at ws (suc k) = ap (start_at ws) (add-one k) in omega arith

    pub at_rising : (i j : ℕ) → i < j → j < count → at i < at j
    at_rising = rises at count (λ i l.
        let e : start_at ws k + suc i ≡ suc (start_at ws k + i) = omega arith in
        subst (λ (n : ℕ). at i < occurrence_at ws n) (sym e) (w.rising (start_at ws k + i) (omega arith) (let z = inside (suc i) l in omega arith)))

    pub at_of : (i : ℕ) → i < count → is_of ws (variable_at ws k) (at i) ≡ true
    unfolding is_of
    at_of i l = sym (and_next _ _ (w.used _ (omega arith) (inside i l)) (sym (eq-eqb _ _ (w.own _ (omega arith) (inside i l)))))

    at_used : (i : ℕ) → i < count → used_slot ws (at i) ≡ true
    at_used i l = w.used _ (omega arith) (inside i l)

    pub of_at : (s : ℕ) → is_of ws (variable_at ws k) s ≡ true → (i : ℕ) × (i < count) × (at i ≡ s)
    unfolding is_of
    of_at s e =
        let u = and_left (used_slot ws s) _ e in
        let v : lit_of ws s / 2 ≡ variable_at ws k = eqb-true _ _ (and_right (used_slot ws s) _ e) in
        let f = p.filed s u in
        let (j, lj, a, b) = locate (start_at ws) (variables_of ws) (position_of ws s) (subst (λ (n : ℕ). n ≤ position_of ws s) (sym p.first) (omega arith)) (subst (λ (n : ℕ). position_of ws s < n) (sym p.end) f.within) in
        let o : lit_of ws s / 2 ≡ variable_at ws j = subst (λ (n : ℕ). lit_of ws n / 2 ≡ variable_at ws j) f.there ((p.listed j lj).own _ a b) in
        let q : j ≡ k = one_place j k lj h (sym o ∙ v) in
        let a' : start_at ws k ≤ position_of ws s = subst (λ (n : ℕ). start_at ws n ≤ position_of ws s) q a in
        let b' : position_of ws s < start_at ws (suc k) = subst (λ (n : ℕ). position_of ws s < start_at ws (suc n)) q b in
        let c : start_at ws (k + 1) ≡ start_at ws (suc k) = ap (start_at ws) (add-one k) in
        let d : start_at ws k + (position_of ws s - start_at ws k) ≡ position_of ws s = omega arith in
        (position_of ws s - start_at ws k, omega arith, ap (occurrence_at ws) d ∙ f.there)

    pub noted_at : (l : ℕ) (x : Noting) → variable_at ws k ≡ l / 2 → note_at ws l k x ≡ iter (λ s y. pick (is_of ws (l / 2) s) (note_slot ws l s y) y) 2176 x
    unfolding note_at
    noted_at l x e =
        loop_over (λ s y. note_slot ws l s y) x at count at_rising (is_of ws (variable_at ws k)) of_at at_of 2176 (λ i b. slot_below (at i) (at_used i b))
        ∙ ap (λ (n : ℕ). iter (λ s y. pick (is_of ws n s) (note_slot ws l s y) y) 2176 x) e

  -- a variable that is not known has no slot
  pub unknown_none : (x s : ℕ) → known ws x ≡ false → is_of ws x s ≡ false
  unfolding is_of
  unknown_none x s e = tested (is_of ws x s) (λ t.
      let f = p.filed s (and_left (used_slot ws s) _ t) in
      let q : variable_at ws (place_of ws s / 2) ≡ x = f.variable ∙ eqb-true _ _ (and_right (used_slot ws s) _ t) in
      absurd (true≢false (sym (is_known (place_of ws s / 2) f.known) ∙ ap (known ws) q ∙ e))) (λ t. t)

  -- `note` looks at the occurrences of the literal's variable, and at no other slot
  pub note_is : (l : ℕ) (x : Noting) → note ws l x ≡ note_lit ws l x
  unfolding note note_lit known
  note_is l x =
      pick_ind (λ (y : Noting). y ≡ iter (λ s y. pick (is_of ws (l / 2) s) (note_slot ws l s y) y) 2176 (level_pushed l x)) (known ws (l / 2)) _ _
      (λ t. noted_at (place_in ws (l / 2)) (ltb-true _ _ (and_left _ _ t)) l (level_pushed l x) (eqb-true _ _ (and_right (ltb (place_in ws (l / 2)) (variables_of ws)) _ t)))
      (λ t. sym (idle_loop (λ s y. note_slot ws l s y) (is_of ws (l / 2)) 2176 (level_pushed l x) (λ s. unknown_none (l / 2) s t)))

  -- looking first finds no other place than searching alone
  pub place_searched : (x : ℕ) → place_in ws x ≡ searched_in ws x
  unfolding place_in
  place_searched x =
      pick_ind (λ (j : ℕ). j ≡ searched_in ws x) (is_at ws (place_from_first ws x) x) _ _ (found _)
      (λ _. pick_ind (λ (j : ℕ). j ≡ searched_in ws x) (is_at ws (place_from_last ws x) x) _ _ (found _) (λ _. refl))
    where
      found : (j : ℕ) → is_at ws j x ≡ true → j ≡ searched_in ws x
      found j e =
          let v : variable_at ws j ≡ x = eqb-true _ _ (and_right (ltb j (variables_of ws)) _ e) in
          sym (search_found j (ltb-true _ _ (and_left _ _ e))) ∙ ap (searched_in ws) v
