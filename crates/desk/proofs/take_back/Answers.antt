use mathlib.Core.Path.{◌≡◌, refl, sym, ap, ap₂, subst, ◌∙◌}
use Prim.Native.Nat.{ℕ, ◌/◌}
use mir.Facts.{to_z-of_z}
use lib.IntN.{ℤ}
use Rattle.refusals.specs.Refusals.{lit_number}
use Rattle.graph_division.specs.Calls.{undone}
use Rattle.desk.proofs.Answering.{take_back_turn}
use borrow.Author.Rules.{rules}
use Rattle.base.proofs.Loop.{pick_yes, pick_no}
use lib.ListN.{set}
use Rattle.desk.proofs.take_back.Goals as goal
use Rattle.desk.proofs.take_back.Goals.{then-not-is_refused, else-not-is_refused}

pub returns : goal.returns
returns c =
    let a = c.args in
    let lit : lit_number _ / 2 ≡ lit_number a.lit / 2 = ap (λ (l : ℤ). lit_number l / 2) (to_z-of_z c.ranges.lit) in
    take_back_turn a.s a.cursor a.table.now a.log.now a.out.now a.lit (lit_number a.lit / 2) _ _ _ _ _ _
    refl
    c.is_refused.ensures
    (c.undo-o.ensures ∙ ap (λ (l : ℤ). undone a.s a.cursor l a.log.now) (to_z-of_z c.ranges.lit))
    c.no_list-list.ensures
    (elim c.if-not-is_refused.branch [
      | then-not-is_refused w ↦ w.table-is ∙ w.store.ensures ∙ ap (λ (v : ℕ). set a.table.now v 0) (w.variable.ensures ∙ lit) ∙ sym (pick_no _ _ w.if-not-is_refused.true)
      | else-not-is_refused w ↦ w.table-is ∙ sym (pick_yes _ _ w.if-not-is_refused.false)
    ])
    c.print.ensures
