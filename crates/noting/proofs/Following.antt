-- Following the log for one literal: where it agrees, the words are those of noting the literal, and the records passed
-- start no notification.
use mathlib.Core.Path.{◌≡◌, refl, sym, ap, ◌∙◌}
use mathlib.Core.Bool.{true, true≢false, false≢true}
use mathlib.Core.List.{List, ◌∷◌}
use Prim.Native.Nat.{ℕ, zero, suc, ◌+◌, ◌≤◌, ◌<◌}
use native.Mathlib.Omega.{arith}
use native.Mathlib.Numerals.{add-one}
use lib.Dec.{eqb, ltb}
use lib.ListN.{length, get_or}
use borrow.Author.Tests.{ltb-true, eqb-true, eqb-false, ne_eqb}
use Rattle.base.specs.Iter.{iter, pick}
use Rattle.base.proofs.Loop.{pick_ind, pick_no}
use Rattle.base.proofs.Tests.{and_left, and_right}
use Rattle.undo_log.specs.declared.Record.{Record}
use Rattle.undo_log.specs.Log.{record_of, word_of}
use Rattle.undo_log.proofs.Words.{InRange, word_back}
use Rattle.plan.specs.Check.{used_slot}
use Rattle.noting.specs.declared.note.Effect.{Effect}
use Rattle.noting.specs.Note.{Noting, effect_of, undo_record, applied, note_slot}
use Rattle.noting.specs.Undo.{records_of}
use Rattle.noting.specs.Standing.{standing}
use Rattle.noting.specs.Replay.{Followed, followed, place, holds_at, follow_slot}
use Rattle.noting.specs.Ready.{BoundsFit, SizesFit}
use Rattle.noting.proofs.Effects.{effective}
use Rattle.noting.proofs.After.{applied_bounds, record_fits}
use Rattle.noting.proofs.Agrees.{slot_words, applied_length, idle_applied}
use Rattle.noting.proofs.Prefix.{slot_was}

-- words that code can hold
pub record Good (ws noted : List ℕ) : Type 0 where
  pub len : length noted ≡ 384
  pub bounds : BoundsFit ws noted

-- a record that starts a notification, or none
pub standing_next : (log : List ℕ) (n : ℕ) (r : Record) → InRange r → get_or log n 0 ≡ word_of r → standing (records_of log (suc n)) ≡ pick (eqb r.kind 0) (r.lit ∷ standing (records_of log n)) (standing (records_of log n))
unfolding records_of standing
standing_next log n r ok e = ap (λ (q : Record). pick (eqb q.kind 0) (q.lit ∷ standing (records_of log n)) (standing (records_of log n))) (ap record_of e ∙ word_back r ok)

module _ (ws log : List ℕ) (used l : ℕ) (wl : l < 65536) (fw : SizesFit ws) where
  -- from y to z, both agreeing with the log
  pub record Goes (noted : List ℕ) (from : ℕ) (z : Followed) : Type 0 where
    pub good : Good ws z.noted
    pub same : z.noted ≡ noted
    pub up : from ≤ z.place.at
    pub down : z.place.at ≤ used
    pub stands : standing (records_of log z.place.at) ≡ standing (records_of log from)

  module _ (s : ℕ) (u : used_slot ws s ≡ true) (y : Followed) (g : Good ws y.noted) (d : y.place.at ≤ used) (o : y.place.ok ≡ true) where
    abbrev e : Effect
    e = effect_of ws y.noted l s

    abbrev r : Record
    r = undo_record y.noted e

    kind_of_lem : r.kind ≡ e.kind
    unfolding undo_record
    kind_of_lem = refl

    good_next : Good ws (applied e l y.noted)
    good_next = record {
      len = applied_length e l y.noted ∙ g.len;
      bounds = applied_bounds ws y.noted l s wl fw u g.bounds e (effective ws y.noted l s);
    }

    went : (e.kind ≡ 0 → ⊥) → holds_at log used y.place.at r ≡ true → Goes (applied e l y.noted) y.place.at (followed (applied e l y.noted) (place true (y.place.at + 1)))
    unfolding holds_at
    went k h =
        let b = ltb-true y.place.at used (and_left _ _ h) in
        let q : get_or log y.place.at 0 ≡ word_of r = eqb-true _ _ (and_right (ltb y.place.at used) _ h) in
        record {
          good = good_next;
          same = refl;
          up = omega arith;
          down = omega arith;
          stands = ap (λ (n : ℕ). standing (records_of log n)) (add-one y.place.at)
              ∙ standing_next log y.place.at r (record_fits ws y.noted l s wl fw u g.bounds e (effective ws y.noted l s)) q
              ∙ pick_no _ _ (ne_eqb r.kind 0 (λ (z : r.kind ≡ 0). k (sym kind_of_lem ∙ z)));
        }

    pub slot_goes : (follow_slot ws log used l s y).place.ok ≡ true → Goes (applied e l y.noted) y.place.at (follow_slot ws log used l s y)
    unfolding follow_slot
    slot_goes =
        pick_ind (λ (z : Followed). z.place.ok ≡ true → Goes (applied e l y.noted) y.place.at z) y.place.ok _ _
        (λ _. pick_ind (λ (z : Followed). z.place.ok ≡ true → Goes (applied e l y.noted) y.place.at z) (eqb e.kind 0) _ _
        (λ t _. record { good = g; same = sym (idle_applied e l y.noted (eqb-true _ _ t)); up = omega arith; down = d; stands = refl })
        (λ t. pick_ind (λ (z : Followed). z.place.ok ≡ true → Goes (applied e l y.noted) y.place.at z) (holds_at log used y.place.at r) _ _
        (λ h _. went (eqb-false _ _ t) h) (λ _ q. absurd (false≢true q))))
        (λ n. absurd (true≢false (sym o ∙ n)))

  pub loop_goes : (at : ℕ → ℕ) (n : ℕ) → ((i : ℕ) → i < n → used_slot ws (at i) ≡ true) → (y : Followed) (x : Noting) → x.noted ≡ y.noted → Good ws y.noted → y.place.at ≤ used →
      (iter (λ i z. follow_slot ws log used l (at i) z) n y).place.ok ≡ true → Goes (iter (λ i z. note_slot ws l (at i) z) n x).noted y.place.at (iter (λ i z. follow_slot ws log used l (at i) z) n y)
  unfolding iter
  loop_goes at zero u y x e g d o = record { good = g; same = sym e; up = omega arith; down = d; stands = refl }
  loop_goes at (suc n) u y x e g d o =
      let z = iter (λ i z. follow_slot ws log used l (at i) z) n y in
      let w = iter (λ i z. note_slot ws l (at i) z) n x in
      let o' : z.place.ok ≡ true = slot_was ws log used l (at n) z o in
      let q = loop_goes at n (λ i h. u i (omega arith)) y x e g d o' in
      let t = slot_goes (at n) (u n (omega arith)) z q.good q.down o' o in
      record {
        good = t.good;
        same = t.same ∙ ap (λ (m : List ℕ). applied (effect_of ws m l (at n)) l m) q.same ∙ sym (slot_words ws l (at n) w);
        up = omega (arith, t.up, q.up);
        down = t.down;
        stands = t.stands ∙ q.stands;
      }
