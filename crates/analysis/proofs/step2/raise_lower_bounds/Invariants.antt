use mathlib.Core.Path.{◌≡◌}
use mathlib.Core.List.{[]}
use Rattle.base.specs.Iter.{iter}
use Rattle.division.specs.Analysis.{raises, guarded}
use Rattle.reasons.specs.Verdicts.{Going, begun, ran, ran_of}
use Rattle.analysis.specs.Placed.{words, on}
use Rattle.plan.specs.Words.{words_of}
use Rattle.analysis.proofs.step2.raise_lower_bounds.Given as goal

abbrev pub invariant-loop-v : goal.invariant-loop-v
invariant-loop-v l = ran Going l.proposals ≡ ran_of (iter (guarded (on raises (words (words_of l.plan) [] l.noted l.view))) l.v begun) l.initial.proposals
