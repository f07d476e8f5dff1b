use mathlib.Core.Path.{◌≡◌, refl, sym, ap, ap₂, ◌∙◌}
use native.Mathlib.Omega.{arith}
use Prim.Native.Nat.{ℕ, ◌+◌, ◌*◌, ◌-◌, ◌≤◌}
use lib.ListN.{length, drop}
use Rattle.text.specs.Fields.{newline, lines_of}
use Rattle.text.proofs.Cut.{upto_in}
use Rattle.plan_lines.specs.Lines.{drafted, counts, reading_of, reading, taken_lines}
use Rattle.plan_lines.proofs.Reading.{past, plan_line, other_line, no_line}
use borrow.Author.Rules.{rules}
use Rattle.plan_lines.proofs.take_lines.Given as goal

abbrev pub invariant-loop-at : goal.invariant-loop-at
invariant-loop-at l = reading (length l.input) (lines_of (drop l.at l.input)) (reading_of l.c l.vertices l.edges l.at) ≡ taken_lines l.input l.initial.vertices l.initial.edges

abbrev pub decreases-loop-at : goal.decreases-loop-at
decreases-loop-at l = length l.input - l.at
