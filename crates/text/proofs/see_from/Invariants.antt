use mathlib.Core.Path.{◌≡◌}
use mathlib.Core.List.{map}
use Prim.Native.Nat.{◌-◌, ◌≤◌}
use lib.ListN.{length, drop}
use Rattle.text.specs.Fields.{tab}
use Rattle.text.specs.Number.{field_of}
use Rattle.text.specs.Lines.{seen_of}
use Rattle.text.specs.Steps.{more}
use Rattle.text.proofs.Seeing.{look}
use Rattle.text.proofs.see_from.Given as goal

abbrev pub invariant-loop-at : goal.invariant-loop-at
invariant-loop-at l = (l.at ≤ length l.line) × (l.s.count ≤ l.at) × (look l.s (map field_of (more tab (drop l.at l.line))) ≡ seen_of (map field_of (more tab (drop l.end l.line))))

abbrev pub decreases-loop-at : goal.decreases-loop-at
decreases-loop-at l = length l.line - l.at
