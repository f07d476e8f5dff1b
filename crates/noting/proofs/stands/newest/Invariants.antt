use mathlib.Core.Path.{◌≡◌}
use Rattle.noting.specs.Undo.{records_of}
use Rattle.noting.specs.Standing.{standing, newest}
use Rattle.noting.proofs.stands.newest.Given as goal

abbrev pub invariant-loop-i : goal.invariant-loop-i
invariant-loop-i l = (newest (standing (records_of l.log l.i)) ≡ newest (standing (records_of l.log l.used)))
