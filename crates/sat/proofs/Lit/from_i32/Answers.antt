use mathlib.Core.Path.{◌≡◌, sym, ap, ◌∙◌}
use mathlib.Core.Bool.{Bool, true, false}
use Prim.Native.Nat.{ℕ, ◌≤◌}
use native.Mathlib.Omega.{arith}
use lib.IntN.{ℤ, pos}
use borrow.Author.Rules.{rules}
use mir.Facts.{to_z-of_z}
use Rattle.base.specs.Range.{in_range, to_nat}
use Rattle.base.proofs.Loop.{pick_yes, pick_no}
use Rattle.base.proofs.Range.{in_range_nat}
use Rattle.std.specs.Prelude.{None, Some}
use Rattle.sat.specs.Literal.{lit_of}
use Rattle.sat.proofs.Lit.from_i32.Goals as goal
use Rattle.sat.proofs.Lit.from_i32.Goals.{After-is_literal, After-to_nat}

-- what the two callees answered, of the number itself
tested : (c : After-is_literal) → c.is_literal.result ≡ in_range (pos 8191) c.args.n
tested c = c.is_literal.ensures ∙ ap (in_range (pos 8191)) (to_z-of_z c.ranges.n)

number : (c : After-to_nat) → c.to_nat.result ≡ to_nat c.args.n
number c = c.to_nat.ensures ∙ ap to_nat (to_z-of_z c.ranges.n)

pub overflow_cast-result : goal.overflow_cast-result
overflow_cast-result c = omega (arith, number (goal.at.overflow_cast-result c).After-to_nat, in_range_nat 8191 c.args.n (sym (tested (goal.at.overflow_cast-result c).After-is_literal) ∙ c.if-is_literal.true))

pub returns-then-is_literal : goal.returns-then-is_literal
unfolding lit_of
returns-then-is_literal c =
    ap (λ (n : ℕ). Some (record { 0 = n })) (number (goal.at.returns-then-is_literal c).After-to_nat)
    ∙ sym (pick_yes _ _ (sym (tested (goal.at.returns-then-is_literal c).After-is_literal) ∙ c.if-is_literal.true))

pub returns : goal.returns
unfolding lit_of
returns c = sym (pick_no _ _ (sym (tested (goal.at.returns c).After-is_literal) ∙ c.if-is_literal.false))
