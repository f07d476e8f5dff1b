-- Noting and following: noting over a log that holds the records already leaves it as it is, and a log to which noting
-- has added its records is followed to its end.
use mathlib.Core.Path.{◌≡◌, refl, sym, ap, ap₂, subst, ◌∙◌}
use mathlib.Core.Bool.{true, ◌&&◌, true≢false, false≢true}
use mathlib.Core.List.{List}
use Prim.Native.Nat.{ℕ, zero, suc, ◌+◌, ◌≤◌, ◌<◌}
use native.Mathlib.Omega.{arith}
use lib.Dec.{eqb, ltb}
use lib.ListN.{length, get_or, set}
use lib.Seq.{get_or-set_same, get_or-set_other, set-get_or}
use borrow.Author.Tests.{lt-ltb, ltb-true, eq-eqb, eqb-true}
use Rattle.base.specs.Iter.{iter}
use Rattle.base.proofs.Loop.{pick_ind, pick_yes, pick_no}
use Rattle.base.proofs.Tests.{and_left, and_right, and_next}
use Rattle.undo_log.specs.declared.Record.{Record}
use Rattle.undo_log.specs.declared.Cursor.{Cursor}
use Rattle.undo_log.specs.Log.{word_of, push_words}
use Rattle.noting.specs.declared.note.Effect.{Effect}
use Rattle.noting.specs.Note.{Noting, noting, effect_of, undo_record, applied, pushed_to, note_slot, cursor_at}
use Rattle.noting.specs.Replay.{Followed, followed, place, holds_at, follow_slot}
use Rattle.noting.proofs.Pushing.{push_length}
use Rattle.noting.proofs.UndoNote.{push_set, push_moves}
use Rattle.noting.proofs.Prefix.{slot_was, Covers, loop_other}

-- a record that stands in the log is pushed there
pub push_held : (log : List ℕ) (c : Cursor) (r : Record) → c.used < length log → get_or log c.used 0 ≡ word_of r → push_words log c r ≡ log
push_held log c r h e = push_set log c r h ∙ ap (set log c.used) (sym e) ∙ set-get_or log c.used 0

module _ (ws log : List ℕ) (used l : ℕ) (fits : used ≤ length log) (n : ℕ) where
  -- the noting that a place in the log stands for
  abbrev at_place : Followed → Noting
  at_place y = noting y.noted log (cursor_at y.place.at n)

  slot_over : (s : ℕ) (y : Followed) → (follow_slot ws log used l s y).place.ok ≡ true → note_slot ws l s (at_place y) ≡ at_place (follow_slot ws log used l s y)
  unfolding follow_slot note_slot holds_at
  slot_over s y =
      pick_ind P y.place.ok _ _
      (λ _. pick_ind P (eqb (effect_of ws y.noted l s).kind 0) _ _ (λ k _. pick_yes _ _ k)
      (λ k. pick_ind P (ltb y.place.at used && eqb (get_or log y.place.at 0) (word_of r)) _ _
      (λ h _.
      let b = ltb-true y.place.at used (and_left _ _ h) in
      let f : y.place.at < length log = omega arith in
      let q : get_or log y.place.at 0 ≡ word_of r = eqb-true _ _ (and_right (ltb y.place.at used) _ h) in
      pick_no _ _ k
      ∙ ap₂ (λ (m : List ℕ) (c : Cursor). noting (applied (effect_of ws y.noted l s) l y.noted) m c) (push_held log (cursor_at y.place.at n) r f q) (push_moves log (cursor_at y.place.at n) r f))
      (λ _ o. absurd (false≢true o))))
      (λ t o. absurd (true≢false (sym o ∙ t)))
    where
      r : Record
      r = undo_record y.noted (effect_of ws y.noted l s)

      P : Followed → Type 0
      P z = z.place.ok ≡ true → note_slot ws l s (at_place y) ≡ at_place z

  pub loop_over : (at : ℕ → ℕ) (m : ℕ) (y : Followed) → (iter (λ i z. follow_slot ws log used l (at i) z) m y).place.ok ≡ true → iter (λ i z. note_slot ws l (at i) z) m (at_place y) ≡ at_place (iter (λ i z. follow_slot ws log used l (at i) z) m y)
  unfolding iter
  loop_over at zero y o = refl
  loop_over at (suc m) y o =
      let z = iter (λ i z. follow_slot ws log used l (at i) z) m y in
      ap (note_slot ws l (at m)) (loop_over at m y (slot_was ws log used l (at m) z o)) ∙ slot_over (at m) z o

-- after slots are noted from x on, with room
module _ (ws : List ℕ) (l : ℕ) where
  abbrev start : Noting → Followed
  start x = followed x.noted (place true x.cursor.used)

  pub record Adds (x : Noting) (most : ℕ) (z : Noting) : Type 0 where
    pub up : x.cursor.used ≤ z.cursor.used
    pub down : z.cursor.used ≤ x.cursor.used + most
    pub long : length z.log ≡ length x.log
    pub same : (i : ℕ) → i < x.cursor.used → get_or z.log i 0 ≡ get_or x.log i 0
    pub stands : z.cursor.standing ≡ x.cursor.standing

  -- one slot is followed in the log after it
  module _ (s : ℕ) (x : Noting) (room : x.cursor.used < length x.log) where
    abbrev e : Effect
    e = effect_of ws x.noted l s

    abbrev r : Record
    r = undo_record x.noted e

    abbrev Step : Noting → Type 0
    Step z = Adds x 1 z × (follow_slot ws z.log z.cursor.used l s (start x) ≡ start z)

    pub slot_adds : Step (note_slot ws l s x)
    unfolding note_slot follow_slot holds_at
    slot_adds =
        pick_ind Step (eqb e.kind 0) _ _
        (λ k. (record { up = omega arith; down = omega arith; long = refl; same = λ i h. refl; stands = refl }, pick_yes _ _ refl ∙ pick_yes _ _ k))
        (λ k.
        let c = push_moves x.log x.cursor r room in
        let u : (pushed_to x.log x.cursor).used ≡ x.cursor.used + 1 = ap (λ (c : Cursor). c.used) c in
        let q = push_set x.log x.cursor r room in (
          record {
            up = omega arith;
            down = omega arith;
            long = push_length x.log x.cursor r;
            same = λ i h. ap (λ (m : List ℕ). get_or m i 0) q ∙ get_or-set_other x.log x.cursor.used i (word_of r) 0 (λ (z : i ≡ x.cursor.used). omega arith);
            stands = ap (λ (c : Cursor). c.standing) c;
          },
          pick_yes _ _ refl ∙ pick_no _ _ k
              ∙ pick_yes _ _ (sym (and_next _ _ (lt-ltb x.cursor.used (pushed_to x.log x.cursor).used (omega arith)) (sym (eq-eqb _ _ (ap (λ (m : List ℕ). get_or m x.cursor.used 0) q ∙ get_or-set_same x.log x.cursor.used (word_of r) 0 room)))))
              ∙ ap (λ (i : ℕ). followed (applied e l x.noted) (place true i)) (sym u),
        ))

  -- all of them are followed in the last log
  pub loop_adds : (at : ℕ → ℕ) (n : ℕ) (x : Noting) → x.cursor.used + n ≤ length x.log →
      Adds x n (iter (λ i z. note_slot ws l (at i) z) n x)
      × (iter (λ i y. follow_slot ws (iter (λ i z. note_slot ws l (at i) z) n x).log (iter (λ i z. note_slot ws l (at i) z) n x).cursor.used l (at i) y) n (start x) ≡ start (iter (λ i z. note_slot ws l (at i) z) n x))
  unfolding iter
  loop_adds at zero x room = (record { up = omega arith; down = omega arith; long = refl; same = λ i h. refl; stands = refl }, refl)
  loop_adds at (suc n) x room =
      let y = iter (λ i z. note_slot ws l (at i) z) n x in
      let z = note_slot ws l (at n) y in
      let (a, f) = loop_adds at n x (omega arith) in
      let (b, g) = slot_adds (at n) y (omega (arith, a.down, a.long)) in (
        record {
          up = omega (arith, a.up, b.up);
          down = omega (arith, a.down, b.down);
          long = b.long ∙ a.long;
          same = λ i h. b.same i (omega (arith, a.up)) ∙ a.same i h;
          stands = b.stands ∙ a.stands;
        },
        ap (follow_slot ws z.log z.cursor.used l (at n))
            (loop_other ws y.log y.cursor.used l z.log z.cursor.used at n (start x) (subst (Covers ws y.log y.cursor.used l z.log z.cursor.used) (sym f) (record { ok = refl; same = b.same; within = b.up })) ∙ f)
            ∙ g,
      )
