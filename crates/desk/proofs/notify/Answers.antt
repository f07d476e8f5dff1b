use mathlib.Core.Path.{◌≡◌, refl, sym, ap, ap₂, subst, ◌∙◌}
use Prim.Native.Nat.{ℕ, ◌/◌}
use mir.Facts.{to_z-of_z}
use lib.IntN.{ℤ}
use Rattle.refusals.specs.Refusals.{lit_number}
use Rattle.desk.specs.Obey.{marked}
use Rattle.desk.proofs.Answering.{notify_turn}
use borrow.Author.Rules.{rules}
use Rattle.base.proofs.Loop.{pick_yes, pick_no}
use Rattle.desk.proofs.notify.Goals as goal
use Rattle.desk.proofs.notify.Goals.{then-is_refused, else-is_refused}

pub returns : goal.returns
returns c =
    let a = c.args in
    let lit = to_z-of_z c.ranges.lit in
    notify_turn a.s a.cursor a.table.now a.log.now a.out.now a.lit _ _ _ _ _ _ _
    (c.variable-v.ensures ∙ ap (λ (l : ℤ). lit_number l / 2) (to_z-of_z c.ranges.lit))
    c.is_refused.ensures a.pending _ _ _ _ _ _ _
    c.entry-old.ensures
    (c.mark.ensures ∙ ap (λ (l : ℤ). marked l a.table.now) lit)
    refl lit (to_z-of_z c.ranges.pending)
    c.propagate-o.ensures
    (elim c.if-is_refused.branch [ then-is_refused w ↦ w.table-is ∙ w.store.ensures ∙ sym (pick_yes _ _ w.if-is_refused.true) | else-is_refused w ↦ w.table-is ∙ sym (pick_no _ _ w.if-is_refused.false) ])
    c.print.ensures
