use mathlib.Core.Path.{◌≡◌, refl, ap, ◌∙◌}
use native.Mathlib.Omega.{arith}
use Rattle.undo_log.specs.declared.Cursor.{Cursor}
use Rattle.graph_division.specs.declared.GraphDivision.{GraphDivision}
use Rattle.graph_division.specs.Calls.{Called}
use Rattle.lent.specs.Lent.{begun_of, initialized_over}
use Rattle.lent.proofs.Parting.{begun_over_zeros}
use Rattle.byte_calls.specs.Layout.{state_in, cursor_in, list_in, log_in}
use Rattle.byte_calls.specs.Host.{initialized_in, left_of}
use Rattle.byte_calls.proofs.Leaving.{plan_here, parts_in, list_fits, log_fits, left_back}
use Rattle.byte_calls.proofs.Initializing.{words_fit, begun_leaves, begun_state}
use borrow.Author.Rules.{rules}
use Rattle.byte_calls.proofs.initialize.begin.Goals as goal

pub finish-r-requires : goal.finish-r-requires
finish-r-requires c =
    let a = c.args in
    let p = c.requires in
    (p.0, search rules, search rules, words_fit _ a.state.now _ 62764 260 c.last-1.given p.3, list_fits _ _ _ c.lits-1.given p.4, log_fits a.before _ _ _ c.records-1.given p.6, p.7)

pub store_initialized-requires : goal.store_initialized-requires
store_initialized-requires c = omega (arith, c.requires.0, c.state-1.given)

pub returns : goal.returns
unfolding initialized_in state_in
returns c =
    let a = c.args in
    let p = c.requires in
    let w = c.word_at-len in
    let k = c.is_initialized-initialized in
    let f = c.finish-r in
    let y : Called = initialized_in a.state.now a.table.now a.list.now a.log.now a.cursor.now in
    let s : GraphDivision = state_in a.state.now in
    let e : begun_of s _ _ _ _ _ _ _ ≡ y = c.initialize-done.ensures s (parts_in a.state.now (plan_here a.state.now p.0) p.1 p.2) p.3 w.ensures k.ensures
    ∙ ((λ i. initialized_over s (p.5 i) (c.no_words-words.ensures i) a.table.now ((p.6 ∙ ap (λ (q : Cursor). log_in q a.log.now) p.5) i) (p.4 i))
    ∙ begun_over_zeros s (cursor_in a.cursor.now) a.table.now (log_in (cursor_in a.cursor.now) a.log.now) (list_in a.list.now)) in record { cursor_after = left_back (cursor_in a.cursor.now) y _ _ _ _ _ _ _ _ (begun_leaves _ a.before _ _ _ _ _ _ _ y e _ _ _ _ _ _ _ (f.ensures.cursor_after) ∙ ap (λ (q : Cursor). left_of q y a.list.now a.log.now a.cursor.now) p.5); after_of = begun_state _ a.before _ _ _ _ _ _ _ y e a.state.now _ _ refl (f.ensures.state_unchanged) f.ensures.state_after c.store_initialized.ensures.state_after c.store_initialized.ensures.state_unchanged f.ensures.bytes_kept c.store_initialized.ensures.bytes_kept }
