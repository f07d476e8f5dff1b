use mathlib.Core.Path.{◌≡◌, sym, ap, ◌∙◌}
use mathlib.Core.Bool.{Bool, true, false}
use Prim.Native.Nat.{ℕ, ◌≤◌}
use native.Mathlib.Omega.{arith}
use lib.IntN.{ℤ, pos}
use borrow.Author.Rules.{rules}
use mir.Facts.{to_z-of_z}
use Rattle.base.specs.Range.{in_range, to_nat}
use Rattle.base.proofs.Loop.{pick_yes, pick_no}
use Rattle.base.proofs.Range.{in_range_nat}
use Rattle.std.specs.Prelude.{None, Some}
use Rattle.sat.specs.Literal.{var_of}
use Rattle.sat.proofs.Var.from_i32.Goals as goal
use Rattle.sat.proofs.Var.from_i32.Goals.{After-in_range, After-to_nat}

-- what the two callees answered, of the number itself
tested : (c : After-in_range) → c.in_range.result ≡ in_range (pos 4095) c.args.n
tested c = c.in_range.ensures ∙ ap (in_range (pos 4095)) (to_z-of_z c.ranges.n)

number : (c : After-to_nat) → c.to_nat.result ≡ to_nat c.args.n
number c = c.to_nat.ensures ∙ ap to_nat (to_z-of_z c.ranges.n)

pub overflow_cast-result : goal.overflow_cast-result
overflow_cast-result c = omega (arith, number (goal.at.overflow_cast-result c).After-to_nat, in_range_nat 4095 c.args.n (sym (tested (goal.at.overflow_cast-result c).After-in_range) ∙ c.if-in_range.true))

pub returns-then-in_range : goal.returns-then-in_range
unfolding var_of
returns-then-in_range c =
    ap (λ (n : ℕ). Some (record { 0 = n })) (number (goal.at.returns-then-in_range c).After-to_nat)
    ∙ sym (pick_yes _ _ (sym (tested (goal.at.returns-then-in_range c).After-in_range) ∙ c.if-in_range.true))

pub returns : goal.returns
unfolding var_of
returns c = sym (pick_no _ _ (sym (tested (goal.at.returns c).After-in_range) ∙ c.if-in_range.false))
