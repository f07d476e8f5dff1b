use mathlib.Core.Path.{◌≡◌}
use Rattle.analysis.specs.First.{disconnected_end}
use Rattle.analysis.proofs.step1.disconnected_end.Given as goal

abbrev pub invariant-loop-h : goal.invariant-loop-h
invariant-loop-h l = disconnected_end l.noted l.h ≡ disconnected_end l.noted l.n
