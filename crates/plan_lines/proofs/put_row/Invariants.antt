use mathlib.Core.Path.{◌≡◌, refl, sym, ap, ap₂, ◌∙◌}
use native.Mathlib.Omega.{arith}
use mir.Syntax.{w32}
use mir.Facts.{to_z-of_z}
use Prim.Native.Nat.{ℕ, ◌+◌, ◌-◌, ◌≤◌}
use mathlib.Core.List.{List}
use lib.IntN.{ℤ, pos}
use lib.ListN.{get_or, set}
use Rattle.base.specs.Iter.{iter}
use Rattle.base.proofs.Loop.{iter_zero, iter_more, iter_done}
use Rattle.plan_lines.specs.Lines.{row_put}
use borrow.Author.Rules.{rules}
use Rattle.plan_lines.proofs.put_row.Given as goal

abbrev pub invariant-loop-j : goal.invariant-loop-j
invariant-loop-j l = l.vertices ≡ iter (λ k (xs : List ℤ). set xs (l.at + k) (get_or l.values k (pos 0))) l.j l.initial.vertices
