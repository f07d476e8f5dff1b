use mathlib.Core.Path.{◌≡◌, refl, sym, ap, ap₂, ◌∙◌}
use Prim.Native.Nat.{ℕ, ◌+◌, ◌*◌, ◌-◌, ◌/◌, ◌≤◌}
use mir.Facts.{to_z-of_z}
use Rattle.base.specs.Range.{in_range}
use lib.IntN.{ℤ, pos}
use Rattle.refusals.specs.Refusals.{lit_number}
use Rattle.desk.proofs.Answering.{mark_set, mark_none, mark_outside}
use borrow.Author.Rules.{rules}
use Rattle.desk.proofs.table.mark.Goals as goal

pub returns-then-entry-eq0 : goal.returns-then-entry-eq0
returns-then-entry-eq0 c = c.store.ensures ∙ mark_set _ _ _ _ (sym (ap (in_range (pos 8191)) (to_z-of_z c.ranges.lit)) ∙ sym c.is_literal.ensures ∙ c.if-is_literal.true) (c.variable-v.ensures ∙ ap (λ (l : ℤ). lit_number l / 2) (to_z-of_z c.ranges.lit)) c.entry.ensures _ _ c.if-entry-eq0.true (c.lit_number.ensures ∙ ap lit_number (to_z-of_z c.ranges.lit)) c.code_of.ensures

pub returns-else-entry-eq0 : goal.returns-else-entry-eq0
returns-else-entry-eq0 c = mark_none _ _ _ _ (sym (ap (in_range (pos 8191)) (to_z-of_z c.ranges.lit)) ∙ sym c.is_literal.ensures ∙ c.if-is_literal.true) (c.variable-v.ensures ∙ ap (λ (l : ℤ). lit_number l / 2) (to_z-of_z c.ranges.lit)) c.entry.ensures c.if-entry-eq0.false

pub returns-else-is_literal : goal.returns-else-is_literal
returns-else-is_literal c = mark_outside _ _ (sym (ap (in_range (pos 8191)) (to_z-of_z c.ranges.lit)) ∙ sym c.is_literal.ensures ∙ c.if-is_literal.false)
