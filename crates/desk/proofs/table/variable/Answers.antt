use mir.Facts.{to_z-of_z}
use Rattle.refusals.specs.Refusals.{lit_number}
use mathlib.Core.Path.{◌≡◌, refl, sym, ap, ap₂, ◌∙◌}
use Prim.Native.Nat.{ℕ, ◌+◌, ◌*◌, ◌-◌, ◌/◌, ◌≤◌}
use borrow.Author.Rules.{rules}
use Rattle.desk.proofs.table.variable.Goals as goal

pub returns : goal.returns
returns c =
    c.variable_index.ensures
    ∙ ap (λ (n : ℕ). n / 2) (c.lit_number.ensures ∙ ap lit_number (to_z-of_z c.ranges.lit))
