use mathlib.Core.Path.{◌≡◌}
use Rattle.base.specs.Iter.{iter}
use Rattle.division.specs.Analysis.{merges, guarded}
use Rattle.reasons.specs.Verdicts.{Going, begun, ran, ran_of}
use Rattle.analysis.specs.Placed.{words, on}
use Rattle.plan.specs.Words.{words_of}
use Rattle.analysis.proofs.step2.disconnect_too_large.Given as goal

abbrev pub invariant-loop-g : goal.invariant-loop-g
invariant-loop-g l = ran Going l.proposals ≡ ran_of (iter (guarded (on merges (words (words_of l.plan) l.edges l.noted l.view))) l.g begun) l.initial.proposals
