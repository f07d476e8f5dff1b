use mathlib.Core.Path.{◌≡◌}
use Rattle.noting.specs.Undo.{records_of}
use Rattle.noting.specs.Standing.{standing, has_variable}
use Rattle.noting.proofs.stands.variable_in.Given as goal

abbrev pub invariant-loop-i : goal.invariant-loop-i
invariant-loop-i l = (l.found ≡ has_variable l.x (standing (records_of l.log l.i)))
