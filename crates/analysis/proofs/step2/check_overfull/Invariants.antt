use Rattle.base.specs.Iter.{iter}
use Rattle.division.specs.Analysis.{overfull, guarded}
use Rattle.reasons.specs.Verdicts.{Going, begun}
use Rattle.analysis.specs.Placed.{words, on, Finds}
use Rattle.analysis.proofs.step2.check_overfull.Given as goal
use mathlib.Core.List.{[]}

abbrev pub invariant-loop-v : goal.invariant-loop-v
invariant-loop-v l = Finds Going (iter (guarded (on overfull (words [] [] l.noted l.view))) l.v begun)
