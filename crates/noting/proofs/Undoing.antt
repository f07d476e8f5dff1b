-- Undo after note: edge states, bounds, their literals and the cursor are as they were.
use mathlib.Core.Path.{◌≡◌, refl, sym, ap, ap₂, subst, ◌∙◌}
use mathlib.Core.Bool.{true}
use mathlib.Core.List.{List, ◌∷◌}
use Prim.Native.Nat.{ℕ, ◌+◌, ◌-◌, ◌/◌, ◌≤◌, ◌<◌}
use native.Mathlib.Omega.{arith}
use lib.Dec.{ltb}
use lib.ListN.{length}
use borrow.Author.Tests.{lt-ltb, ltb-true, eqb-true}
use Rattle.base.specs.Iter.{iter, pick}
use Rattle.base.proofs.Loop.{pick_ind, pick_yes}
use Rattle.base.proofs.Tests.{and_left, and_right}
use Rattle.undo_log.specs.declared.Record.{Record}
use Rattle.undo_log.specs.declared.Cursor.{Cursor}
use Rattle.undo_log.specs.Log.{push_words}
use Rattle.plan.specs.Words.{variables_of, variable_at, start_at, occurrence_at}
use Rattle.plan.specs.Check.{used_slot}
use Rattle.plan.specs.Proper.{ProperWords}
use Rattle.noting.specs.Note.{Noting, noting, note_slot, boundary, one_more, level_pushed, place_in, known, note_at, note, is_of}
use Rattle.noting.specs.Undo.{records_of, undone, kept, undo}
use Rattle.noting.specs.Ready.{occurrences, Ready}
use Rattle.noting.proofs.Pushing.{push_length}
use Rattle.noting.proofs.Back.{records_length}
use Rattle.noting.proofs.UndoNote.{At, all, push_moves, records_push}
use Rattle.noting.proofs.Indexed.{at_rising, at_of}

module _ (ws : List ℕ) (l : ℕ) (x : Noting) (r : Ready ws l x) where
  abbrev y : Noting
  y = level_pushed l x

  free : x.cursor.used < length x.log
  free = omega (arith, r.room)

  pub level_log : y.log ≡ push_words x.log x.cursor (boundary l)
  unfolding level_pushed
  level_log = refl

  pub level_cursor : y.cursor ≡ record { used = x.cursor.used + 1; standing = x.cursor.standing + 1 }
  unfolding level_pushed one_more
  level_cursor =
      ap (one_more x.log) (push_moves x.log x.cursor (boundary l) free)
      ∙ ap (λ (n : ℕ). cursor_at (x.cursor.used + 1) n) (pick_yes (x.cursor.standing + 1) x.cursor.standing (lt-ltb x.cursor.standing (length x.log) (omega (arith, r.room, r.counted))))
    where
      cursor_at : ℕ → ℕ → Cursor
      cursor_at a b = record { used = a; standing = b }

  pub level_records : records_of y.log y.cursor.used ≡ boundary l ∷ records_of x.log x.cursor.used
  level_records =
      ap₂ records_of level_log (ap (λ (c : Cursor). c.used) level_cursor)
      ∙ records_push x.log x.cursor (boundary l) free (record { kind = omega arith; index = omega arith; bound = omega arith; lit = r.lit })

  level_noted : y.noted ≡ x.noted
  unfolding level_pushed
  level_noted = refl

  module _ (at : ℕ → ℕ) (n : ℕ) (rising : (i j : ℕ) → i < j → j < n → at i < at j) (own : (i : ℕ) → i < n → is_of ws (l / 2) (at i) ≡ true) (h : x.cursor.used + 1 + n ≤ length x.log) where
    in_use : (i : ℕ) → i < n → used_slot ws (at i) ≡ true
    unfolding is_of
    in_use i b = and_left _ _ (own i b)

    start : At ws l at n r.lit r.sizes rising in_use x.noted x.cursor.used (x.cursor.standing + 1) 0 y
    unfolding undone kept pick level_pushed
    start = record {
      bounds = r.bounds;
      room = omega (arith, ap (λ (c : Cursor). c.used) level_cursor, push_length x.log x.cursor (boundary l));
      undecided = λ j a b c d. r.undecided (at j) (own j b) c;
      same = ap (λ (rs : List Record). undone rs x.noted) level_records;
      left = ap kept level_records ∙ records_length x.log x.cursor.used;
      stands = ap (λ (c : Cursor). c.standing) level_cursor;
    }

    gives_back : undo (iter (λ i z. note_slot ws l (at i) z) n y) ≡ noting x.noted (iter (λ i z. note_slot ws l (at i) z) n y).log x.cursor
    unfolding undo
    gives_back =
        let e = all ws l at n r.lit r.sizes rising in_use x.noted x.cursor.used (x.cursor.standing + 1) y start in
        let z = iter (λ i z. note_slot ws l (at i) z) n y in
        let s : z.cursor.standing - 1 ≡ x.cursor.standing = omega (arith, e.stands) in
        ap (λ (m : List ℕ). noting m z.log (cursor_at (kept (records_of z.log z.cursor.used)) (z.cursor.standing - 1))) e.same
        ∙ ap₂ (λ (a b : ℕ). noting x.noted z.log (cursor_at a b)) e.left s
      where
        cursor_at : ℕ → ℕ → Cursor
        cursor_at a b = record { used = a; standing = b }

  pub undo_note : (ends : List (List ℕ)) → ProperWords ws ends → undo (note ws l x) ≡ noting x.noted (note ws l x).log x.cursor
  unfolding note note_at known occurrences iter
  undo_note ends p =
      pick_ind (λ (z : Noting). undo z ≡ noting x.noted z.log x.cursor) (known ws (l / 2)) _ _
      (λ t. let k = place_in ws (l / 2) in
      let h : k < variables_of ws = ltb-true _ _ (and_left _ _ t) in
      let e : variable_at ws k ≡ l / 2 = eqb-true _ _ (and_right (ltb k (variables_of ws)) _ t) in
      gives_back (λ i. occurrence_at ws (start_at ws k + i)) (start_at ws (k + 1) - start_at ws k) (at_rising ws ends p k h)
      (λ i b. ap (λ (n : ℕ). is_of ws n (occurrence_at ws (start_at ws k + i))) (sym e) ∙ at_of ws ends p k h i b)
      (subst (λ (n : ℕ). x.cursor.used + 1 + n ≤ length x.log) (pick_yes _ _ t) r.room))
      (λ t. gives_back (λ i. i) 0 (λ i j a b. absurd (omega arith)) (λ i b. absurd (omega arith)) (omega (arith, r.room)))
