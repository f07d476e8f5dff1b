use mathlib.Core.Path.{◌≡◌, refl, sym, ap, ap₂, subst, ◌∙◌}
use Prim.Native.Nat.{ℕ, ◌≤◌, ◌<◌, ◌+◌, ◌-◌, ◌*◌, ◌/◌, ◌%◌}
use native.Mathlib.Omega.{arith}
use lib.ListN.{length, length-set, get_or, set, replicate}
use mathlib.Core.List.{List, ◌∷◌, []}
use Rattle.byte_calls.specs.Layout.{ends_at, ends_in, state_in, plan_in, reasons_in, reason_in, reason_word_in, cursor_in, log_in, buffer_in}
use Rattle.base.specs.Bytes.{words_in}
use Rattle.byte_calls.proofs.Undoing.{undo_back, given_back, undo_after}
use Rattle.byte_calls.specs.Host.{too_short, back, given_in, back_by, undone_in, propagated_in, AfterOf, left_with, left_of, short, build_code}
use Rattle.byte_calls.proofs.Leaving.{short_is, short_left, long_left, short_state, long_state, short_back, long_back, short_reason, long_reason, short_last, long_last, after_is, left_back}
use Rattle.graph_division.specs.Calls.{Called, Fetched, reason_fetched, last_fetched}
use Rattle.graph_division.specs.declared.Outcome.{Outcome}
use mir.Facts.{to_z-of_z}
use Rattle.byte_calls.proofs.LastList.{undo_leaves}
use borrow.Author.Rules.{rules}
use Rattle.byte_calls.proofs.on_bytes.undo.Goals as goal

pub returns-then-too_short : goal.returns-then-too_short
returns-then-too_short c = record { cursor_after = short_back c.args.state.now c.args.log.now c.args.cursor.now _ (sym c.too_short.ensures ∙ c.if-too_short.true); leaves = undo_leaves (too_short c.args.state.now c.args.cursor.now) c.args.state.now c.args.log.now c.args.cursor.now c.args.lit _ (λ i. omega (arith, c.slice_known-1.given i)) (short_state (undone_in c.args.state.now c.args.log.now c.args.cursor.now c.args.lit) _ _ (sym c.too_short.ensures ∙ c.if-too_short.true)) }

pub undo-requires : goal.undo-requires
undo-requires c = short_is _ _ (sym c.too_short.ensures ∙ c.if-too_short.false)

pub returns : goal.returns
returns c = record { cursor_after = long_back c.args.state.now c.args.log.now c.args.cursor.now _ _ (sym c.too_short.ensures ∙ c.if-too_short.false) (undo_back _ _ _ _ (c.undo.ensures.cursor_after ∙ ap (λ (y : Outcome). back_by y c.args.cursor.now) (λ i. undone_in c.args.state.now c.args.log.now c.args.cursor.now (to_z-of_z c.ranges.lit i)))); leaves = undo_leaves (too_short c.args.state.now c.args.cursor.now) c.args.state.now c.args.log.now c.args.cursor.now c.args.lit _ (λ i. omega (arith, c.slice_known-1.given i)) (long_state (undone_in c.args.state.now c.args.log.now c.args.cursor.now c.args.lit) _ _ _ (sym c.too_short.ensures ∙ c.if-too_short.false) (undo_after _ _ _ _ (λ i. undone_in c.args.state.now c.args.log.now c.args.cursor.now (to_z-of_z c.ranges.lit i)) c.undo.ensures.after_of)) }
