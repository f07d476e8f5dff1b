use Rattle.base.specs.Iter.{iter}
use Rattle.reasons.specs.Verdicts.{Going, begun}
use Rattle.analysis.specs.Placed.{words, on, Finds}
use Rattle.division.specs.Analysis.{guarded}
use Rattle.analysis.specs.First.{meets_first}
use Rattle.plan.specs.Words.{words_of}
use Rattle.analysis.proofs.step4.check_meets.Given as goal

abbrev pub invariant-loop-r : goal.invariant-loop-r
invariant-loop-r l = Finds Going (iter (guarded (on meets_first (words (words_of l.plan) l.edges l.noted l.view))) l.r begun)
