-- Following reads the log only up to where it gets: another log with the same words there is followed alike.
use mathlib.Core.Path.{◌≡◌, refl, sym, ap, ◌∙◌}
use mathlib.Core.Bool.{true, false≢true}
use mathlib.Core.List.{List}
use Prim.Native.Nat.{ℕ, zero, suc, ◌+◌, ◌≤◌, ◌<◌}
use native.Mathlib.Omega.{arith}
use lib.Dec.{eqb, ltb}
use lib.ListN.{get_or}
use borrow.Author.Tests.{lt-ltb, eq-eqb, eqb-true}
use Rattle.base.specs.Iter.{iter}
use Rattle.base.proofs.Loop.{pick_ind, pick_yes, pick_no, tested}
use Rattle.base.proofs.Tests.{and_right, and_next}
use Rattle.undo_log.specs.declared.Record.{Record}
use Rattle.noting.specs.Note.{effect_of, undo_record}
use Rattle.noting.specs.Replay.{Followed, holds_at, follow_slot}

module _ (ws log : List ℕ) (used l : ℕ) where
  -- what does not agree stays so
  pub slot_was : (s : ℕ) (y : Followed) → (follow_slot ws log used l s y).place.ok ≡ true → y.place.ok ≡ true
  unfolding follow_slot
  slot_was s y = tested y.place.ok (λ t _. t) (λ t q. sym (ap (λ (z : Followed). z.place.ok) (pick_no _ _ t)) ∙ q)

  -- a slot goes at most one record on
  abbrev On : Followed → Followed → Type 0
  On y z = (y.place.at ≤ z.place.at) × (z.place.at ≤ y.place.at + 1)

  pub slot_on : (s : ℕ) (y : Followed) → On y (follow_slot ws log used l s y)
  unfolding follow_slot
  slot_on s y =
      pick_ind (On y) y.place.ok _ _
      (λ _. pick_ind (On y) (eqb (effect_of ws y.noted l s).kind 0) _ _ (λ _. (omega arith, omega arith))
      (λ _. pick_ind (On y) (holds_at log used y.place.at (undo_record y.noted (effect_of ws y.noted l s))) _ _ (λ _. (omega arith, omega arith)) (λ _. (omega arith, omega arith))))
      (λ _. (omega arith, omega arith))

  pub loop_on : (at : ℕ → ℕ) (n : ℕ) (y : Followed) → (y.place.at ≤ (iter (λ i z. follow_slot ws log used l (at i) z) n y).place.at) × ((iter (λ i z. follow_slot ws log used l (at i) z) n y).place.at ≤ y.place.at + n)
  unfolding iter
  loop_on at zero y = (omega arith, omega arith)
  loop_on at (suc n) y =
      let (a, b) = loop_on at n y in
      let (c, d) = slot_on (at n) (iter (λ i z. follow_slot ws log used l (at i) z) n y) in
      (omega arith, omega arith)

  module _ (other : List ℕ) (bound : ℕ) where
    -- the words up to z's place are in the other log too
    pub record Covers (z : Followed) : Type 0 where
      pub ok : z.place.ok ≡ true
      pub same : (i : ℕ) → i < z.place.at → get_or other i 0 ≡ get_or log i 0
      pub within : z.place.at ≤ bound

    held : (r : Record) (at : ℕ) → holds_at log used at r ≡ true → get_or other at 0 ≡ get_or log at 0 → at < bound → holds_at other bound at r ≡ true
    unfolding holds_at
    held r at h e b = sym (and_next _ _ (lt-ltb at bound b) (sym (eq-eqb _ _ (e ∙ eqb-true _ _ (and_right (ltb at used) _ h)))))

    slot_other : (s : ℕ) (y : Followed) → Covers (follow_slot ws log used l s y) → follow_slot ws other bound l s y ≡ follow_slot ws log used l s y
    unfolding follow_slot
    slot_other s y =
        pick_ind (λ (z : Followed). Covers z → follow_slot ws other bound l s y ≡ z) y.place.ok _ _
        (λ t. pick_ind (λ (z : Followed). Covers z → follow_slot ws other bound l s y ≡ z) (eqb (effect_of ws y.noted l s).kind 0) _ _
        (λ k _. pick_yes _ _ t ∙ pick_yes _ _ k)
        (λ k. pick_ind (λ (z : Followed). Covers z → follow_slot ws other bound l s y ≡ z) (holds_at log used y.place.at (undo_record y.noted (effect_of ws y.noted l s))) _ _
        (λ h c. pick_yes _ _ t ∙ pick_no _ _ k ∙ pick_yes _ _ (held (undo_record y.noted (effect_of ws y.noted l s)) y.place.at h (c.same y.place.at (omega arith)) (omega (arith, c.within))))
        (λ _ c. absurd (false≢true c.ok))))
        (λ t _. pick_no _ _ t)

    pub loop_other : (at : ℕ → ℕ) (n : ℕ) (y : Followed) → Covers (iter (λ i z. follow_slot ws log used l (at i) z) n y) → iter (λ i z. follow_slot ws other bound l (at i) z) n y ≡ iter (λ i z. follow_slot ws log used l (at i) z) n y
    unfolding iter
    loop_other at zero y c = refl
    loop_other at (suc n) y c =
        let z = iter (λ i z. follow_slot ws log used l (at i) z) n y in
        let up = (slot_on (at n) z).0 in
        ap (follow_slot ws other bound l (at n)) (loop_other at n y (record { ok = slot_was (at n) z c.ok; same = λ i h. c.same i (omega arith); within = omega (arith, c.within) }))
        ∙ slot_other (at n) z c
