use mathlib.Core.Path.{◌≡◌}
use Rattle.base.specs.Iter.{iter}
use Rattle.reasons.specs.Verdicts.{Going, begun, ran, ran_of}
use Rattle.analysis.specs.Placed.{words, on}
use Rattle.division.specs.Analysis.{parts_at, guarded}
use Rattle.plan.specs.Words.{words_of}
use Rattle.analysis.proofs.step5.disconnect_same_size.Given as goal

abbrev pub invariant-loop-u : goal.invariant-loop-u
invariant-loop-u l = ran Going l.proposals ≡ ran_of (iter (guarded (on parts_at (words (words_of l.plan) l.edges l.noted l.view))) l.u begun) l.initial.proposals
