use mathlib.Core.Path.{◌≡◌}
use Rattle.base.specs.Iter.{iter}
use Rattle.reasons.specs.Verdicts.{Going, begun, ran, ran_of}
use Rattle.analysis.specs.Placed.{words, on}
use Rattle.division.specs.Analysis.{parted, guarded}
use Rattle.plan.specs.Words.{words_of}
use Rattle.analysis.proofs.step5.parts_at.Given as goal

abbrev pub invariant-loop-g : goal.invariant-loop-g
invariant-loop-g l = ran Going l.proposals ≡ ran_of (iter (guarded (λ g. iter (guarded (on parted (words (words_of l.plan) l.edges l.noted l.view) l.u g)) g)) l.g begun) l.initial.proposals
