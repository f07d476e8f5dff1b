-- Building, noting and undoing give what passes refusal 7, and what stands changes by the one literal.
use mathlib.Core.Path.{◌≡◌, refl, sym, ap, subst, ◌∙◌}
use mathlib.Core.Bool.{true, false}
use mathlib.Core.List.{List, ◌∷◌}
use Prim.Native.Nat.{ℕ, ◌+◌, ◌-◌, ◌/◌, ◌≤◌, ◌<◌}
use native.Mathlib.Omega.{arith}
use lib.ListN.{length, get_or}
use lib.Seq.{get_or-set_same, get_or-set_other}
use borrow.Author.Tests.{lt-ltb}
use Rattle.base.proofs.Loop.{pick_yes}
use Rattle.undo_log.specs.declared.Cursor.{Cursor}
use Rattle.undo_log.specs.Log.{word_of, push_words}
use Rattle.plan.specs.Words.{start_at, occurrence_at}
use Rattle.plan.specs.Proper.{ProperWords}
use Rattle.noting.specs.Words.{fresh}
use Rattle.noting.specs.Note.{Noting, noting, boundary, one_more, level_pushed, place_in, known, note_at, note, cursor_at}
use Rattle.noting.specs.Undo.{undo}
use Rattle.noting.specs.Standing.{has_variable}
use Rattle.noting.specs.Replay.{Followed, followed, place, follow_at, log_bad}
use Rattle.noting.specs.Buffers.{log_short}
use Rattle.noting.proofs.Pushing.{push_length}
use Rattle.noting.proofs.UndoNote.{push_set, push_moves}
use Rattle.noting.specs.Ready.{occurrences}
use Rattle.noting.proofs.Undoing.{undo_note}
use Rattle.noting.specs.Logged.{Logged}
use Rattle.noting.proofs.Logged.{one_on, logged_other, logged_length, logged_good, zeros_length}
use Rattle.noting.proofs.Appending.{push_held, loop_over, loop_adds}
use Rattle.noting.proofs.Passing.{logged_passes}
use Rattle.noting.specs.Alike.{Alike}
use Rattle.noting.proofs.Alike.{fresh_alike, alike_same}
use Rattle.noting.proofs.Readying.{ready}

-- a notification's first record, with room
level_is : (l : ℕ) (noted log : List ℕ) (c : Cursor) → c.used < length log → c.standing ≤ c.used → level_pushed l (noting noted log c) ≡ noting noted (push_words log c (boundary l)) (cursor_at (c.used + 1) (c.standing + 1))
unfolding level_pushed one_more
level_is l noted log c h n =
    ap (λ (d : Cursor). noting noted (push_words log c (boundary l)) (one_more log d)) (push_moves log c (boundary l) h)
    ∙ ap (λ (m : ℕ). noting noted (push_words log c (boundary l)) (cursor_at (c.used + 1) m)) (pick_yes (c.standing + 1) c.standing (lt-ltb c.standing (length log) (omega arith)))

module _ (ws : List ℕ) (ends : List (List ℕ)) (p : ProperWords ws ends) where
  alike_refl : (a : List ℕ) → Alike ws a a
  alike_refl a = record { long = refl; same = λ i h. refl }

  -- (what is built) the fresh words, an empty log and a cursor of zeros pass
  pub fresh_passes : (noted log : List ℕ) → length noted ≡ 384 → log_bad ws (fresh ws noted) log (cursor_at 0 0) ≡ false
  fresh_passes noted log len = logged_passes ws ends p log (fresh ws noted) (cursor_at 0 0) Logged.none (omega arith) refl (alike_same ws ends p _ _ (fresh_alike ws ends p _ noted (zeros_length 384) len))

  -- a literal is noted after others
  module _ (log : List ℕ) (c : Cursor) {ls noted : List ℕ} (x : Logged ws log ls c.used noted) (count : c.standing ≤ c.used) (l : ℕ) (k : known ws (l / 2) ≡ true) (n : has_variable (l / 2) ls ≡ false) (free : c.used + 1 + occurrences ws (l / 2) ≤ length log) where
    abbrev z : Noting
    z = note ws l (noting noted log c)

    pub record Grown (z : Noting) : Type 0 where
      pub logged : Logged ws z.log (l ∷ ls) z.cursor.used z.noted
      pub fits : z.cursor.used ≤ length z.log
      pub stands : z.cursor.standing ≡ c.standing + 1
      pub long : length z.log ≡ length log

    abbrev y : Noting
    y = noting noted (push_words log c (boundary l)) (cursor_at (c.used + 1) (c.standing + 1))

    abbrev j : ℕ
    j = place_in ws (l / 2)

    z_is : z ≡ note_at ws l j y
    unfolding note
    z_is = pick_yes _ _ k ∙ ap (note_at ws l j) (level_is l noted log c (omega arith) count)

    few : start_at ws (j + 1) - start_at ws j ≡ occurrences ws (l / 2)
    unfolding occurrences
    few = sym (pick_yes _ _ k)

    grown_at : Grown (note_at ws l j y)
    unfolding note_at follow_at
    grown_at =
        let q = push_set log c (boundary l) (omega arith) in
        let m = push_length log c (boundary l) in
        let (a, f) = loop_adds ws l (λ i. occurrence_at ws (start_at ws j + i)) (start_at ws (j + 1) - start_at ws j) y (omega (arith, few)) in
        record {
          logged = Logged.one (logged_other ws log _ (λ i h. a.same i (omega arith) ∙ ap (λ (w : List ℕ). get_or w i 0) q ∙ get_or-set_other log c.used i (word_of (boundary l)) 0 (λ (e : i ≡ c.used). omega arith)) x) k n
              (a.same c.used (omega arith) ∙ ap (λ (w : List ℕ). get_or w c.used 0) q ∙ get_or-set_same log c.used (word_of (boundary l)) 0 (omega arith)) f;
          fits = omega (arith, a.down, a.long, few);
          stands = a.stands;
          long = a.long ∙ m;
        }

    pub grown : Grown z
    grown = subst Grown (sym z_is) grown_at

  -- noting over a log that holds the notification already
  note_over : (log : List ℕ) (l at to n : ℕ) (noted after : List ℕ) → known ws (l / 2) ≡ true → n ≤ at → to ≤ length log → get_or log at 0 ≡ word_of (boundary l) →
      follow_at ws log to l (place_in ws (l / 2)) (followed noted (place true (at + 1))) ≡ followed after (place true to) → note ws l (noting noted log (cursor_at at n)) ≡ noting after log (cursor_at to (n + 1))
  unfolding note note_at follow_at
  note_over log l at to n noted after k h fits b f =
      let (a, _) = one_on ws log l at to noted after f in
      let j = place_in ws (l / 2) in
      pick_yes _ _ k
      ∙ ap (note_at ws l j) (level_is l noted log (cursor_at at n) (omega arith) h ∙ ap (λ (m : List ℕ). noting noted m (cursor_at (at + 1) (n + 1))) (push_held log (cursor_at at n) (boundary l) (omega arith) b))
      ∙ loop_over ws log to l fits (n + 1) (λ i. occurrence_at ws (start_at ws j + i)) (start_at ws (j + 1) - start_at ws j) (followed noted (place true (at + 1))) (ap (λ (z : Followed). z.place.ok) f)
      ∙ ap (λ (z : Followed). noting z.noted log (cursor_at z.place.at (n + 1))) f

  -- the newest notification is undone
  pub record Shrunk (log ls : List ℕ) (z : Noting) : Type 0 where
    pub logged : Logged ws log ls z.cursor.used z.noted
    pub stands : z.cursor.standing ≡ length ls
    pub same : z.log ≡ log
    pub fits : z.cursor.used ≤ length log

  pub shrunk : (log : List ℕ) {l : ℕ} {ls : List ℕ} {to : ℕ} {after : List ℕ} → log_short ws (length log) ≡ false → to ≤ length log → Logged ws log (l ∷ ls) to after → Shrunk log ls (undo (noting after log (cursor_at to (length ls + 1))))
  shrunk log long fits (Logged.one {ls = ls} {at = at} {noted = noted} {l = l} {to = to} {after = after} x k h b f) =
      let (a, _) = one_on ws log l at to noted after f in
      let o = note_over log l at to (length ls) noted after k (logged_length ws log x) fits b f in
      let s = (logged_good ws ends p log x).1 in
      let e = logged_passes ws ends p log noted (cursor_at at (length ls)) x (omega arith) refl (alike_same ws ends p noted noted (alike_refl noted)) in
      let r = ready ws ends p noted log (cursor_at at (length ls)) e long l k (ap (has_variable (l / 2)) s ∙ h) in
      let u : undo (noting after log (cursor_at to (length ls + 1))) ≡ noting noted log (cursor_at at (length ls)) =
      ap undo (sym o) ∙ undo_note ws l (noting noted log (cursor_at at (length ls))) r ends p ∙ ap (λ (z : Noting). noting noted z.log (cursor_at at (length ls))) o in
      subst (Shrunk log ls) (sym u) (record { logged = x; stands = refl; same = refl; fits = omega arith })
