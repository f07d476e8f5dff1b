use mir.Syntax.{w32}
use mir.Facts.{to_z-of_z}
use Rattle.plan_lines.proofs.Putting.{head_put_lem}
use mathlib.Core.Path.{◌≡◌, refl, sym, ap, ap₂, ◌∙◌}
use native.Mathlib.Omega.{arith}
use borrow.Author.Rules.{rules}
use Rattle.plan_lines.proofs.put_head.Goals as goal

pub returns : goal.returns
returns c = head_put_lem _ _ _ _ _ _ _ _ _ (to_z-of_z (c.ranges.weight)) (to_z-of_z {w = w32} (record { sfits = c.as_number.type_inv }) ∙ c.as_number.ensures) c.saturating_sub.ensures (to_z-of_z {w = w32} (record { sfits = c.as_number-2.type_inv }) ∙ c.as_number-2.ensures)
