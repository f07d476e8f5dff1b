-- Refusal 7 stays away: what passes its last part passes it again after a literal is noted or the newest undone, and what
-- stands is then one literal more or less. For a caller that has tested refusals 7, 9, 10 and 11.
use mathlib.Core.Path.{◌≡◌, refl, sym, ap, subst, ◌∙◌}
use mathlib.Core.Bool.{true, false, true≢false}
use mathlib.Core.List.{List, [], ◌∷◌}
use Prim.Native.Nat.{ℕ, ◌+◌, ◌/◌, ◌≤◌, ◌<◌}
use native.Mathlib.Omega.{arith}
use lib.ListN.{length, get_or}
use borrow.Author.Tests.{eqb-true}
use Rattle.base.proofs.Loop.{tested}
use Rattle.base.proofs.Tests.{not_false}
use Rattle.undo_log.specs.declared.Cursor.{Cursor}
use Rattle.plan.specs.Proper.{ProperWords}
use Rattle.noting.specs.Note.{Noting, noting, known, note, cursor_at}
use Rattle.noting.specs.Undo.{records_of, undo}
use Rattle.noting.specs.Standing.{standing, has_variable, newest, not_newest}
use Rattle.noting.specs.Replay.{afresh, log_bad}
use Rattle.noting.specs.Buffers.{log_short}
use Rattle.noting.proofs.UndoNote.{records_same}
use Rattle.noting.specs.Logged.{Logged}
use Rattle.noting.proofs.Logged.{known_small, logged_other, logged_length, logged_good}
use Rattle.noting.proofs.Replaying.{parts, counts, log_fits, passed_logged}
use Rattle.noting.proofs.Room.{room}
use Rattle.noting.proofs.Passing.{logged_passes}
use Rattle.noting.specs.Alike.{Alike, Twins}
use Rattle.noting.proofs.Alike.{undo_twins, same_alike, alike_same, note_twins}
use Rattle.noting.proofs.Keeping.{Grown, grown, Shrunk, shrunk}

-- what lies past the records in the log does not change what stands
pub standing_other : (log other : List ℕ) (n : ℕ) → ((i : ℕ) → i < n → get_or other i 0 ≡ get_or log i 0) → standing (records_of other n) ≡ standing (records_of log n)
standing_other log other n same = ap standing (records_same other log n same)

module _ (ws : List ℕ) (ends : List (List ℕ)) (p : ProperWords ws ends) where
  -- nor whether the log passes
  pub passes_other : (noted log other : List ℕ) (c : Cursor) → c.used ≤ length other → ((i : ℕ) → i < c.used → get_or other i 0 ≡ get_or log i 0) → log_bad ws noted log c ≡ false → log_bad ws noted other c ≡ false
  passes_other noted log other c fits same e =
      logged_passes ws ends p other noted c (logged_other ws log other same (passed_logged ws ends p noted log c e)) fits (counts ws ends p noted log c e) (parts ws ends p noted log c e).3

  pub log_prefix : (noted log other : List ℕ) (c : Cursor) → length other ≡ length log → ((i : ℕ) → i < c.used → get_or other i 0 ≡ get_or log i 0) → log_bad ws noted other c ≡ log_bad ws noted log c
  log_prefix noted log other c long same = tested (log_bad ws noted log c)
      (λ t. tested (log_bad ws noted other c) (λ u. u ∙ sym t) (λ u. absurd (clash t u)))
      (λ t. passes_other noted log other c (omega (arith, long, log_fits ws ends p noted log c t)) same t ∙ sym t)
    where
      clash : log_bad ws noted log c ≡ true → log_bad ws noted other c ≡ false → ⊥
      clash t u = true≢false (sym t ∙ passes_other noted other log c (omega (arith, long, log_fits ws ends p noted other c u)) (λ i h. sym (same i h)) u)

  module _ (noted log : List ℕ) (c : Cursor) (e : log_bad ws noted log c ≡ false) where
    abbrev now : List ℕ
    now = standing (records_of log c.used)

    -- the words noted afresh
    abbrev again : List ℕ
    again = (afresh ws log c.used).follow.noted

    logged : Logged ws log now c.used again
    logged = passed_logged ws ends p noted log c e

    counted : c.standing ≤ c.used
    counted = omega (arith, counts ws ends p noted log c e, logged_length ws log logged)

    -- the literal that refusals 9 and 11 leave is the newest that stands
    pub newest_stands : (l : ℕ) → known ws (l / 2) ≡ true → not_newest l now ≡ false → (ls : List ℕ) × (now ≡ l ∷ ls)
    unfolding not_newest newest
    newest_stands l k n = go now (eqb-true _ _ (not_false _ n))
      where
        go : (ms : List ℕ) → newest ms ≡ l → (ls : List ℕ) × (ms ≡ l ∷ ls)
        go [] q = absurd (let s = known_small ws ends p l k in omega arith)
        go (m ∷ ms) q = (ms, ap (λ (i : ℕ). i ∷ ms) q)

    module _ (len : length noted ≡ 384) (long : log_short ws (length log) ≡ false) where
      alike : Alike ws again noted
      alike = same_alike ws ends p again noted ((logged_good ws ends p log logged).0.len ∙ sym len) (parts ws ends p noted log c e).3

      twins : Twins ws (noting again log c) (noting noted log c)
      twins = record { noted = alike; log = refl; cursor = refl }

      -- a literal is noted
      module _ (l : ℕ) (k : known ws (l / 2) ≡ true) (n : has_variable (l / 2) now ≡ false) where
        abbrev z : Noting
        z = note ws l (noting noted log c)

        abbrev z' : Noting
        z' = note ws l (noting again log c)

        both : Twins ws z' z
        both = note_twins ws ends p l (noting again log c) (noting noted log c) twins

        g : Grown ws ends p log c logged counted l k n (room ws ends p noted log c e long l k n) z'
        g = grown ws ends p log c logged counted l k n (room ws ends p noted log c e long l k n)

        pub note_logged : Logged ws z.log (l ∷ now) z.cursor.used z'.noted
        note_logged = subst (λ (m : List ℕ). Logged ws m (l ∷ now) z.cursor.used z'.noted) both.log (subst (λ (d : Cursor). Logged ws z'.log (l ∷ now) d.used z'.noted) both.cursor g.logged)

        pub note_log_length : length z.log ≡ length log
        note_log_length = ap length (sym both.log) ∙ g.long

        pub note_noted_length : length z.noted ≡ 384
        note_noted_length = sym both.noted.long ∙ (logged_good ws ends p z.log note_logged).0.len

        pub note_standing : standing (records_of z.log z.cursor.used) ≡ l ∷ now
        note_standing = (logged_good ws ends p z.log note_logged).1

        pub note_passes : log_bad ws z.noted z.log z.cursor ≡ false
        note_passes = logged_passes ws ends p z.log z.noted z.cursor note_logged
            (omega (arith, g.fits, ap length both.log, ap (λ (d : Cursor). d.used) both.cursor))
            (let m : z.cursor.standing ≡ c.standing + 1 = sym (ap (λ (d : Cursor). d.standing) both.cursor) ∙ g.stands in omega (arith, counts ws ends p noted log c e))
            (alike_same ws ends p z'.noted z.noted both.noted)

      -- the newest is undone
      module _ (l : ℕ) (ls : List ℕ) (s : now ≡ l ∷ ls) where
        abbrev u : Noting
        u = undo (noting noted log c)

        abbrev u' : Noting
        u' = undo (noting again log c)

        pair : Twins ws u' u
        pair = undo_twins ws (noting again log c) (noting noted log c) twins

        less : Shrunk ws ends p log ls u'
        less =
            let d : length ls + 1 ≡ c.standing = omega (arith, counts ws ends p noted log c e, ap length s) in
            subst (λ (n : ℕ). Shrunk ws ends p log ls (undo (noting again log (cursor_at c.used n)))) d
            (shrunk ws ends p log long (log_fits ws ends p noted log c e) (subst (λ (m : List ℕ). Logged ws log m c.used again) s logged))

        pub undo_log : u.log ≡ log
        undo_log = sym pair.log ∙ less.same

        pub undo_logged : Logged ws log ls u.cursor.used u'.noted
        undo_logged = subst (λ (d : Cursor). Logged ws log ls d.used u'.noted) pair.cursor less.logged

        pub undo_noted_length : length u.noted ≡ 384
        undo_noted_length = sym pair.noted.long ∙ (logged_good ws ends p log undo_logged).0.len

        pub undo_standing : standing (records_of log u.cursor.used) ≡ ls
        undo_standing = (logged_good ws ends p log undo_logged).1

        pub undo_passes : log_bad ws u.noted log u.cursor ≡ false
        undo_passes = logged_passes ws ends p log u.noted u.cursor undo_logged
            (omega (arith, less.fits, ap (λ (d : Cursor). d.used) pair.cursor))
            (sym (sym (ap (λ (d : Cursor). d.standing) pair.cursor) ∙ less.stands))
            (alike_same ws ends p u'.noted u.noted pair.noted)
