-- A log of records is the log of their words: each definition on records is the flat one on the words.
use mathlib.Core.Path.{◌≡◌, refl, sym, ap, ◌∙◌}
use mathlib.Core.Bool.{◌&&◌}
use mathlib.Core.List.{List, [], ◌∷◌, map}
use Prim.Native.Nat.{ℕ, zero, suc, ◌-◌}
use lib.Dec.{ltb, leb}
use lib.ListN.{length, get_or, set, length-map}
use Rattle.base.specs.Iter.{pick}
use Rattle.base.proofs.Loop.{pick_yes, pick_no, tested}
use Rattle.undo_log.specs.declared.Record.{Record}
use Rattle.undo_log.specs.declared.Cursor.{Cursor}
use Rattle.std.specs.Prelude.{Option, None, Some}
use Rattle.undo_log.specs.Log.{word_of, record_of, push_words, push_answer, pop_answer, moved_to}
use Rattle.undo_log.proofs.Words.{InRange, word_back}
use Rattle.lent_log.specs.Records.{no_record, Pushing, push_record, has_newest, Popping, pop_record}

pub word_at : (log : List Record) (i : ℕ) → get_or (map word_of log) i 0 ≡ word_of (get_or log i no_record)
unfolding word_of
word_at [] i = refl
word_at (r ∷ log) zero = refl
word_at (r ∷ log) (suc i) = word_at log i

pub map_set : (log : List Record) (i : ℕ) (r : Record) → map word_of (set log i r) ≡ set (map word_of log) i (word_of r)
map_set [] i r = refl
map_set (s ∷ log) zero r = refl
map_set (s ∷ log) (suc i) r = ap (λ (l : List ℕ). word_of s ∷ l) (map_set log i r)

-- the flat answers, told from what a push and a pop on records leave
unfoldable pub pushed_as : Pushing → Option Cursor
pushed_as x = pick x.room (Some x.cursor) None

abbrev with_cursor : Cursor → Option Record → Option (Record × Cursor)
with_cursor c (Some r) = Some (r, c)
with_cursor c None = None

unfoldable pub popped_as : Popping → Option (Record × Cursor)
popped_as x = with_cursor x.cursor x.newest

module _ (log : List Record) (c : Cursor) where
  pub push_words_lem : (r : Record) → map word_of (push_record log c r).log ≡ push_words (map word_of log) c r
  unfolding push_record push_words
  push_words_lem r = tested (ltb c.used (length log))
      (λ e. ap (λ (x : Pushing). map word_of x.log) (pick_yes _ _ e) ∙ map_set log c.used r ∙ sym (pick_yes _ _ (long ∙ e)))
      (λ e. ap (λ (x : Pushing). map word_of x.log) (pick_no _ _ e) ∙ sym (pick_no _ _ (long ∙ e)))
    where
      long : ltb c.used (length (map word_of log)) ≡ ltb c.used (length log)
      long = ap (ltb c.used) (length-map log word_of)

  pub push_answer_lem : (r : Record) → pushed_as (push_record log c r) ≡ push_answer (map word_of log) c
  unfolding push_record push_answer pushed_as
  push_answer_lem r = tested (ltb c.used (length log))
      (λ e. ap pushed_as (pick_yes _ _ e) ∙ pick_yes _ _ refl ∙ sym (pick_yes _ _ (long ∙ e)))
      (λ e. ap pushed_as (pick_no _ _ e) ∙ pick_no _ _ refl ∙ sym (pick_no _ _ (long ∙ e)))
    where
      long : ltb c.used (length (map word_of log)) ≡ ltb c.used (length log)
      long = ap (ltb c.used) (length-map log word_of)

  -- each field of the newest record fits its type, as it does in every record that code holds
  pub pop_answer_lem : InRange (get_or log (c.used - 1) no_record) → popped_as (pop_record log c) ≡ pop_answer (map word_of log) c
  unfolding pop_record pop_answer popped_as has_newest
  pop_answer_lem ok = tested (ltb 0 c.used && leb c.used (length log))
      (λ e. ap popped_as (pick_yes _ _ e) ∙ ap (λ (r : Record). Some (r, moved_to c (c.used - 1))) (sym (ap record_of (word_at log (c.used - 1)) ∙ word_back _ ok)) ∙ sym (pick_yes _ _ (long ∙ e)))
      (λ e. ap popped_as (pick_no _ _ e) ∙ sym (pick_no _ _ (long ∙ e)))
    where
      long : (ltb 0 c.used && leb c.used (length (map word_of log))) ≡ (ltb 0 c.used && leb c.used (length log))
      long = ap (λ (n : ℕ). ltb 0 c.used && leb c.used n) (length-map log word_of)
