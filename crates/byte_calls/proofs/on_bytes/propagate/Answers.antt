use mathlib.Core.Path.{◌≡◌, refl, sym, ap, ap₂, subst, ◌∙◌}
use Prim.Native.Nat.{ℕ, ◌≤◌, ◌<◌, ◌+◌, ◌-◌, ◌*◌, ◌/◌, ◌%◌}
use native.Mathlib.Omega.{arith}
use lib.ListN.{length, length-set, get_or, set, replicate}
use mathlib.Core.List.{List, ◌∷◌, []}
use Rattle.byte_calls.specs.Layout.{ends_at, ends_in, state_in, plan_in, reasons_in, reason_in, reason_word_in, cursor_in, log_in, buffer_in}
use Rattle.base.specs.Bytes.{words_in}
use Rattle.byte_calls.proofs.Undoing.{undo_back, given_back, undo_after}
use Rattle.byte_calls.specs.Host.{too_short, back, given_in, back_by, undone_in, propagated_in, AfterOf, left_with, left_of, short, build_code}
use Rattle.byte_calls.proofs.Leaving.{short_is, short_left, long_left, short_state, long_state, short_back, long_back, short_reason, long_reason, short_last, long_last, after_is, left_back}
use Rattle.graph_division.specs.Calls.{Called, Fetched, reason_fetched, last_fetched}
use Rattle.graph_division.specs.declared.Outcome.{Outcome}
use mir.Facts.{to_z-of_z}
use Rattle.byte_calls.proofs.LastList.{propagate_leaves}
use borrow.Author.Rules.{rules}
use Rattle.byte_calls.proofs.on_bytes.propagate.Goals as goal

pub too_short-requires : goal.too_short-requires
too_short-requires c = tt

pub returns-then-too_short : goal.returns-then-too_short
returns-then-too_short c = record { cursor_after = short_left c.args.state.now c.args.table.now c.args.list.now c.args.log.now c.args.cursor.now _ _ (sym c.too_short.ensures ∙ c.if-too_short.true); leaves = propagate_leaves (too_short c.args.state.now c.args.cursor.now) c.args.state.now c.args.table.now c.args.list.now c.args.log.now c.args.cursor.now c.args.lit c.args.num_pending_propagations _ (λ i. omega (arith, c.slice_known-1.given i)) (short_state (propagated_in c.args.state.now c.args.table.now c.args.list.now c.args.log.now c.args.cursor.now c.args.lit c.args.num_pending_propagations).outcome _ _ (sym c.too_short.ensures ∙ c.if-too_short.true)) }

pub propagate-requires : goal.propagate-requires
propagate-requires c = short_is _ _ (sym c.too_short.ensures ∙ c.if-too_short.false)

pub returns : goal.returns
returns c =
    record { cursor_after = long_left c.args.state.now c.args.table.now c.args.list.now c.args.log.now c.args.cursor.now _ _ _ (sym c.too_short.ensures ∙ c.if-too_short.false) (left_back (cursor_in c.args.cursor.now) _ c.args.list.now c.args.log.now c.args.cursor.now _ _ _ _ _ (c.propagate.ensures.cursor_after ∙ ap (λ (y : Called). left_of (cursor_in c.args.cursor.now) y c.args.list.now c.args.log.now c.args.cursor.now) (λ i. propagated_in c.args.state.now c.args.table.now c.args.list.now c.args.log.now c.args.cursor.now (to_z-of_z c.ranges.lit i) (to_z-of_z c.ranges.num_pending_propagations i)))); leaves = propagate_leaves (too_short c.args.state.now c.args.cursor.now) c.args.state.now c.args.table.now c.args.list.now c.args.log.now c.args.cursor.now c.args.lit c.args.num_pending_propagations _ (λ i. omega (arith, c.slice_known-1.given i)) (long_state (propagated_in c.args.state.now c.args.table.now c.args.list.now c.args.log.now c.args.cursor.now c.args.lit c.args.num_pending_propagations).outcome _ _ _ (sym c.too_short.ensures ∙ c.if-too_short.false) (after_is _ _ _ _ (λ i. propagated_in c.args.state.now c.args.table.now c.args.list.now c.args.log.now c.args.cursor.now (to_z-of_z c.ranges.lit i) (to_z-of_z c.ranges.num_pending_propagations i)) c.propagate.ensures.after_of)) }
