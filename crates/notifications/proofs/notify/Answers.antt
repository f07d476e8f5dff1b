use mathlib.Core.Path.{◌≡◌, ap, ◌∙◌}
use mathlib.Core.Bool.{Bool}
use mathlib.Core.List.{List}
use Prim.Native.Nat.{ℕ}
use native.Mathlib.Omega.{arith}
use Rattle.noting.specs.Undo.{records_of}
use Rattle.noting.specs.Standing.{standing, has_variable}
use Rattle.notifications.proofs.Cases.{notify_stopped, notify_tried}
use borrow.Author.Rules.{rules}
use Rattle.notifications.proofs.notify.Goals as goal

of_variable : (log : List ℕ) (used : ℕ) {x y : ℕ} {b : Bool} →
    b ≡ has_variable x (standing (records_of log used)) → x ≡ y → b ≡ has_variable y (standing (records_of log used))
of_variable log used f e = f ∙ ap (λ (n : ℕ). has_variable n (standing (records_of log used))) e

pub returns-then-variable_stands : goal.returns-then-variable_stands
returns-then-variable_stands c = notify_stopped _ _ _ _ _ _ _ _ c.lit_at-lit.ensures (of_variable _ _ c.variable_stands.ensures c.var-variable.ensures) c.if-variable_stands.true

pub overflow_add-p : goal.overflow_add-p
overflow_add-p c = omega arith

pub join-requires : goal.join-requires
join-requires c = c.try_out-crossed.ensures.1

pub returns : goal.returns
returns c = notify_tried _ _ _ _ _ _ _ _ c.lit_at-lit.ensures (of_variable _ _ c.variable_stands.ensures c.var-variable.ensures) _ _ c.if-variable_stands.false c.try_out-crossed.ensures.0 c.join.ensures
