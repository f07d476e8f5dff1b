use mathlib.Core.Path.{◌≡◌, refl, ap, ◌∙◌}
use mir.Facts.{to_z-of_z}
use Rattle.undo_log.specs.declared.Cursor.{Cursor}
use Rattle.graph_division.specs.declared.GraphDivision.{GraphDivision}
use Rattle.graph_division.specs.Calls.{Called}
use Rattle.lent.specs.Lent.{called_of, propagated_over}
use Rattle.lent.proofs.Parting.{over_zeros}
use Rattle.byte_calls.specs.Layout.{state_in, cursor_in, list_in, log_in}
use Rattle.byte_calls.specs.Host.{propagated_in, left_of}
use Rattle.byte_calls.proofs.Leaving.{plan_here, parts_in, list_fits, log_fits, leaves, state_left, left_back}
use borrow.Author.Rules.{rules}
use Rattle.byte_calls.proofs.changes.notify.Goals as goal

pub finish-requires : goal.finish-requires
finish-requires c = (c.requires.0, search rules, search rules, search rules, list_fits _ _ _ c.lits-1.given c.requires.3, log_fits c.args.before _ _ _ c.records-1.given c.requires.5, c.requires.6)

pub returns : goal.returns
unfolding propagated_in
returns c =
    let a = c.args in
    let p = c.requires in
    let f = c.finish in
    let s : GraphDivision = state_in a.state.now in
    let y : Called = propagated_in a.state.now a.table.now a.list.now a.log.now a.cursor.now a.lit a.num_pending_propagations in
    let e : called_of s _ _ _ _ _ _ _ ≡ y = c.propagate-done.ensures s (parts_in a.state.now (plan_here a.state.now p.0) p.1 p.2)
    ∙ ((λ i. propagated_over s (p.4 i) (c.no_words-proposals.ensures i) (c.no_list-words.ensures i) (to_z-of_z c.ranges.lit i) (to_z-of_z c.ranges.num_pending_propagations i) a.table.now (p.3 i) ((p.5 ∙ ap (λ (q : Cursor). log_in q a.log.now) p.4) i))
    ∙ over_zeros s (cursor_in a.cursor.now) a.lit a.num_pending_propagations a.table.now (list_in a.list.now) (log_in (cursor_in a.cursor.now) a.log.now)) in record { cursor_after = left_back (cursor_in a.cursor.now) y _ _ _ _ _ _ _ _ (leaves _ a.before _ _ _ _ _ _ _ y e _ _ _ _ _ _ _ f.ensures.cursor_after ∙ ap (λ (q : Cursor). left_of q y a.list.now a.log.now a.cursor.now) p.4); after_of = state_left _ a.before _ _ _ _ _ _ _ y e a.state.now _ refl f.ensures.state_unchanged f.ensures.state_after f.ensures.bytes_kept }
