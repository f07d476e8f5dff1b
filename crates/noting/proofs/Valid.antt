-- For the calls: what passes refusal 7 as one record, kept by building, noting and undoing.
use mathlib.Core.Path.{◌≡◌, refl, ap, ◌∙◌}
use mathlib.Core.Bool.{true, false}
use mathlib.Core.List.{List, [], ◌∷◌}
use Prim.Native.Nat.{ℕ, ◌/◌}
use lib.ListN.{length}
use Rattle.plan.specs.Plan.{plan_of}
use Rattle.plan.specs.Proper.{ProperWords}
use Rattle.division.specs.Noting.{note_all}
use Rattle.division.specs.Agree.{SameState}
use Rattle.noting.specs.Words.{state_of, fresh}
use Rattle.noting.specs.Note.{Noting, noting, known, note, cursor_at}
use Rattle.noting.specs.Undo.{records_of, undo}
use Rattle.noting.specs.Standing.{standing, has_variable, not_newest, standing_of}
use Rattle.noting.specs.Replay.{log_bad}
use Rattle.noting.specs.Buffers.{log_short}
use Rattle.noting.proofs.Undoing.{undo_note}
use Rattle.noting.proofs.Unnoted.{fresh_length}
use Rattle.noting.proofs.Replaying.{state_stands}
use Rattle.noting.proofs.Readying.{ready}
use Rattle.noting.proofs.Keeping.{fresh_passes}
use Rattle.noting.proofs.Preserved.{newest_stands, note_log_length, note_noted_length, note_standing, note_passes, undo_log, undo_noted_length, undo_standing, undo_passes}
use Rattle.noting.specs.Good.{GoodLog}

module _ (ws : List ℕ) (ends : List (List ℕ)) (p : ProperWords ws ends) where
  -- nothing noted: any log of the length that refusal 7 asks for
  pub fresh_valid : (noted log : List ℕ) → length noted ≡ 384 → log_short ws (length log) ≡ false → GoodLog ws (noting (fresh ws noted) log (cursor_at 0 0)) × (standing_of (noting (fresh ws noted) log (cursor_at 0 0)) ≡ [])
  unfolding records_of standing
  fresh_valid noted log len long = (record { words = fresh_length ws noted len ends p; passes = fresh_passes ws ends p noted log len; long = long }, refl)

  module _ (x : Noting) (v : GoodLog ws x) where
    -- the state is what the standing literals give
    pub valid_state : SameState (plan_of ws ends) (state_of x.noted) (note_all (plan_of ws ends) (standing_of x))
    valid_state = state_stands ws ends p x.noted x.log x.cursor v.passes

    -- a literal that refusals 9 and 10 leave is noted
    module _ (l : ℕ) (k : known ws (l / 2) ≡ true) (n : has_variable (l / 2) (standing_of x) ≡ false) where
      pub note_valid : GoodLog ws (note ws l x) × (standing_of (note ws l x) ≡ l ∷ standing_of x)
      note_valid = (
        record {
          words = note_noted_length ws ends p x.noted x.log x.cursor v.passes v.words v.long l k n;
          passes = note_passes ws ends p x.noted x.log x.cursor v.passes v.words v.long l k n;
          long = ap (log_short ws) (note_log_length ws ends p x.noted x.log x.cursor v.passes v.words v.long l k n) ∙ v.long;
        },
        note_standing ws ends p x.noted x.log x.cursor v.passes v.words v.long l k n,
      )

      -- and undoing it gives edge states, bounds, their literals and the cursor back
      pub note_undone : undo (note ws l x) ≡ noting x.noted (note ws l x).log x.cursor
      note_undone = undo_note ws l x (ready ws ends p x.noted x.log x.cursor v.passes v.long l k n) ends p

    -- the literal that refusals 9 and 11 leave is undone
    pub undo_valid : (l : ℕ) (ls : List ℕ) → standing_of x ≡ l ∷ ls → GoodLog ws (undo x) × (standing_of (undo x) ≡ ls)
    undo_valid l ls s =
        let e = undo_log ws ends p x.noted x.log x.cursor v.passes v.words v.long l ls s in (
          record {
            words = undo_noted_length ws ends p x.noted x.log x.cursor v.passes v.words v.long l ls s;
            passes = ap (λ (m : List ℕ). log_bad ws (undo x).noted m (undo x).cursor) e ∙ undo_passes ws ends p x.noted x.log x.cursor v.passes v.words v.long l ls s;
            long = ap (λ (m : List ℕ). log_short ws (length m)) e ∙ v.long;
          },
          ap (λ (m : List ℕ). standing (records_of m (undo x).cursor.used)) e ∙ undo_standing ws ends p x.noted x.log x.cursor v.passes v.words v.long l ls s,
        )

    pub newest_valid : (l : ℕ) → known ws (l / 2) ≡ true → not_newest l (standing_of x) ≡ false → (ls : List ℕ) × (standing_of x ≡ l ∷ ls)
    newest_valid l k n = newest_stands ws ends p x.noted x.log x.cursor v.passes l k n
