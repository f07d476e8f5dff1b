use mathlib.Core.List.{[]}
use Rattle.base.specs.Iter.{iter}
use Rattle.reasons.specs.Verdicts.{Going, begun}
use Rattle.analysis.specs.Placed.{words, on, Finds}
use Rattle.division.specs.Analysis.{crowds, guarded}
use Rattle.plan.specs.Words.{words_of}
use Rattle.analysis.proofs.step3.check_crowded.Given as goal

abbrev pub invariant-loop-r : goal.invariant-loop-r
invariant-loop-r l = Finds Going (iter (guarded (on crowds (words (words_of l.plan) [] l.noted l.view))) l.r begun)
