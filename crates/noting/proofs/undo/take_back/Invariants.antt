use mathlib.Core.Path.{◌≡◌}
use Rattle.noting.specs.Undo.{records_of, undone, kept}
use Rattle.noting.proofs.undo.take_back.Given as goal

abbrev pub invariant-loop-i : goal.invariant-loop-i
invariant-loop-i l = (undone (records_of l.log l.i) l.noted ≡ undone (records_of l.log l.n) l.initial.noted) × (kept (records_of l.log l.i) ≡ kept (records_of l.log l.n))
