use mathlib.Core.Path.{◌≡◌, refl, sym, ap, ap₂, ◌∙◌}
use Prim.Native.Nat.{ℕ, ◌≤◌, ◌<◌, ◌+◌, ◌-◌, ◌*◌, ◌/◌, ◌%◌}
use native.Mathlib.Omega.{arith}
use Rattle.base.specs.Bytes.{word_at, long_at, put_half, put_word, put_long, put_halves, put_words, put_longs}
use Rattle.byte_calls.specs.Stores.{put_reason, put_reasons, put_last, put_noted, put_cursor, put_list, put_log}
use mathlib.Core.Bool.{true, false, true≢false}
use Rattle.byte_calls.proofs.Leaving.{is_left, is_kept, leaves, state_left, list_room, log_room}
use Rattle.byte_calls.proofs.Coding.{code_back}
use Rattle.graph_division.specs.Answers.{is_refused}
use lib.ListN.{length, length-set, get_or, set}
use mathlib.Core.List.{List}
use Rattle.byte_calls.proofs.Keeping.{kept_same}
use borrow.Author.Rules.{rules}
use Rattle.byte_calls.proofs.changes.finish.Goals as goal

pub returns-then-is_refused : goal.returns-then-is_refused
returns-then-is_refused c =
    let t : is_refused c.args.done.answer ≡ true = sym c.is_refused.ensures ∙ c.if-is_refused.true in
    record { cursor_after = is_left c.args.done.answer c.args.before c.args.done.cursor c.args.lits.now c.args.records.now c.args.list.now c.args.log.now c.args.cursor.now _ (code_back c.args.done.answer _ c.code_of.ensures) t; state_unchanged = (λ (n : is_refused c.args.done.answer ≡ true). refl); state_after = (λ (n : is_refused c.args.done.answer ≡ false) l. absurd (true≢false (sym t ∙ n))); bytes_kept = kept_same _ }

pub returns : goal.returns
returns c =
    let t : is_refused c.args.done.answer ≡ false = sym c.is_refused.ensures ∙ c.if-is_refused.false in record { cursor_after = is_kept c.args.done.answer c.args.before c.args.done.cursor c.args.lits.now c.args.records.now c.args.list.now c.args.log.now c.args.cursor.now _ _ _ _ (code_back c.args.done.answer _ c.code_of-2.ensures) t (c.store_list.ensures ∙ ap (λ (k : ℕ). put_list c.args.lits.now k c.args.list.now) c.given_by.ensures) c.store_log.ensures c.store_cursor.ensures; state_unchanged = (λ (n : is_refused c.args.done.answer ≡ true). absurd (true≢false (sym n ∙ t))); state_after = (λ (n : is_refused c.args.done.answer ≡ false) l. c.store_state.ensures.state_after l); bytes_kept = c.store_state.ensures.bytes_kept }
