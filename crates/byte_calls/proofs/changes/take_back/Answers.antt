use mathlib.Core.Path.{refl, sym, ap, ◌∙◌}
use lib.IntN.{ℤ}
use mir.Facts.{to_z-of_z}
use Rattle.graph_division.specs.Calls.{undone}
use Rattle.byte_calls.specs.Layout.{state_in}
use Rattle.byte_calls.proofs.Keeping.{noted_kept}
use Rattle.byte_calls.proofs.Leaving.{plan_here, parts_in}
use Rattle.byte_calls.proofs.Undoing.{undo_left, undo_kept, state_same, state_stored}
use borrow.Author.Rules.{rules}
use Rattle.byte_calls.proofs.changes.take_back.Goals as goal

pub returns-then-is_refused : goal.returns-then-is_refused
returns-then-is_refused c =
    let a = c.args in
    let p = c.requires in
    let e = c.undo-done.ensures.answer_after (state_in a.state.now) (parts_in a.state.now (plan_here a.state.now p.0) p.2 p.3) ∙ ap (λ (z : ℤ). undone (state_in a.state.now) a.before z a.records.now) (to_z-of_z c.ranges.lit) in
    let r = sym c.is_refused.ensures ∙ c.if-is_refused.true in
    record { cursor_after = undo_left _ _ _ _ _ e a.state.now refl _ _ c.code_of.ensures r; after_of = state_same _ _ _ _ _ e a.state.now refl r }

pub returns : goal.returns
returns c =
    let a = c.args in
    let p = c.requires in
    let e = c.undo-done.ensures.answer_after (state_in a.state.now) (parts_in a.state.now (plan_here a.state.now p.0) p.2 p.3) ∙ ap (λ (z : ℤ). undone (state_in a.state.now) a.before z a.records.now) (to_z-of_z c.ranges.lit) in
    let r = sym c.is_refused.ensures ∙ c.if-is_refused.false in record { cursor_after = undo_kept _ _ _ _ _ e a.state.now refl _ _ _ c.code_of-2.ensures r c.store_cursor.ensures; after_of = state_stored _ _ _ _ _ e a.state.now refl _ r c.store_noted.ensures.1 (noted_kept _ _ _ c.store_noted.ensures.0) }
