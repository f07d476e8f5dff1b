-- A push: the cursor that it answers, and the log's length.
use mathlib.Core.Path.{◌≡◌, refl, sym, ap, ◌∙◌}
use mathlib.Core.Bool.{true, false}
use mathlib.Core.List.{List}
use Prim.Native.Nat.{ℕ, ◌+◌}
use lib.Dec.{eqb}
use lib.ListN.{length, length-set}
use Rattle.base.specs.Iter.{iter, pick}
use Rattle.base.proofs.Loop.{pick_ind, pick_yes, pick_no, tested, iter_ind}
use Rattle.undo_log.specs.declared.Record.{Record}
use Rattle.undo_log.specs.declared.Cursor.{Cursor}
use Rattle.std.specs.Prelude.{Option}
use Rattle.std.specs.Option.{unwrap_or}
use Rattle.undo_log.specs.Log.{push_words, push_answer, has_room, moved_to}
use Rattle.noting.specs.Note.{Noting, pushed_to, note_slot, note_at, effect_of}

module _ (log : List ℕ) (c : Cursor) where
  -- a full log leaves the cursor where it is
  pub moved_or_here : unwrap_or (push_answer log c) c ≡ pushed_to log c
  unfolding push_answer pushed_to
  moved_or_here = tested (has_room log c)
      (λ h. ap (λ (x : Option Cursor). unwrap_or x c) (pick_yes _ _ h) ∙ sym (pick_yes _ _ h))
      (λ h. ap (λ (x : Option Cursor). unwrap_or x c) (pick_no _ _ h) ∙ sym (pick_no _ _ h))

  pub push_length : (r : Record) → length (push_words log c r) ≡ length log
  unfolding push_words
  push_length r = pick_ind (λ (w : List ℕ). length w ≡ length log) (has_room log c) _ _ (λ _. length-set log c.used _) (λ _. refl)

pub slot_length : (ws : List ℕ) (l s : ℕ) (x : Noting) → length (note_slot ws l s x).log ≡ length x.log
unfolding note_slot
slot_length ws l s x = pick_ind (λ (y : Noting). length y.log ≡ length x.log) (eqb (effect_of ws x.noted l s).kind 0) _ _ (λ _. refl) (λ _. push_length x.log x.cursor _)

pub slots_length : (ws : List ℕ) (l : ℕ) (at : ℕ → ℕ) (n : ℕ) (x : Noting) → length (iter (λ i y. note_slot ws l (at i) y) n x).log ≡ length x.log
slots_length ws l at n x = iter_ind (λ _ (y : Noting). length y.log ≡ length x.log) _ x n refl (λ i y h e. slot_length ws l (at i) y ∙ e)

pub at_length : (ws : List ℕ) (l k : ℕ) (x : Noting) → length (note_at ws l k x).log ≡ length x.log
unfolding note_at
at_length ws l k x = slots_length ws l _ _ x
