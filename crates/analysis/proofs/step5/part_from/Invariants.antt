use mathlib.Core.Path.{◌≡◌}
use Rattle.base.specs.Iter.{iter}
use Rattle.reasons.specs.Verdicts.{Going, begun, ran, ran_of}
use Rattle.analysis.specs.Placed.{words, on}
use Rattle.division.specs.Analysis.{parted, guarded}
use Rattle.plan.specs.Words.{words_of}
use Rattle.analysis.proofs.step5.part_from.Given as goal

abbrev pub invariant-loop-h : goal.invariant-loop-h
invariant-loop-h l = ran Going l.proposals ≡ ran_of (iter (guarded (on parted (words (words_of l.plan) l.edges l.noted l.view) l.u l.g)) l.h begun) l.initial.proposals
