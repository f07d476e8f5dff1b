use mathlib.Core.List.{[]}
use Rattle.analysis.specs.Placed.{words}
use Rattle.analysis.proofs.Walls.{Marks}
use Rattle.analysis.proofs.step1.lowest_walls.Given as goal

abbrev pub invariant-loop-h : goal.invariant-loop-h
invariant-loop-h l = Marks (words [] l.edges l.noted l.view) l.n l.h l.walls
