use native.Mathlib.Omega.{arith}
use mathlib.Core.Path.{sym, ap, ◌∙◌}
use Rattle.base.specs.Iter.{iter}
use Rattle.division.specs.Plan.{touches, across}
use Rattle.division.specs.Analysis.{parted, loose}
use Rattle.plan.specs.Words.{words_of}
use Rattle.reasons.specs.Verdicts.{ran_of}
use Rattle.analysis.specs.Placed.{words, on}
use Rattle.analysis.specs.SameSize.{leads_to_fixed}
use Rattle.analysis.proofs.Pass.{ran_none, ran_more, ran_length, ran_stop}
use Rattle.analysis.proofs.Forks.{parted_none, parted_follows}
use Rattle.analysis.proofs.step5.part_from.Goals as goal

pub loop-h-init : goal.loop-h-init
loop-h-init c = ran_none _ _

pub loop-h-preserved : goal.loop-h-preserved
loop-h-preserved c = ran_more _ (parted_follows _ _ _ _ _) _ _ _ _ _ c.loop-h.invariant c.in_ok-parted.ensures

pub shape_of-proposals-in_err-parted : goal.shape_of-proposals-in_err-parted
shape_of-proposals-in_err-parted c = ran_length _ _ _ _ (ran_more _ (parted_follows _ _ _ _ _) _ _ _ _ _ c.loop-h.invariant c.in_err-parted.ensures)

pub returns-in_err-parted : goal.returns-in_err-parted
returns-in_err-parted c = ran_stop _ (parted_follows _ _ _ _ _) _ _ _ _ _ _ _ c.from_residual.ensures.1 (omega arith) c.loop-h.invariant c.in_err-parted.ensures

pub returns-else-leads_to_fixed : goal.returns-else-leads_to_fixed
unfolding leads_to_fixed touches across loose iter ran_of
returns-else-leads_to_fixed c = ran_none (on parted (words (words_of c.args.plan.now) c.args.edges.now c.args.noted.now c.args.view.now) c.args.u c.args.g) _ ∙ ap (λ q. ran_of q c.args.proposals.now) (sym (parted_none _ _ _ _ _ c.args.g (sym c.leads_to_fixed.ensures ∙ c.if-leads_to_fixed.false)))

pub shape_of-proposals : goal.shape_of-proposals
shape_of-proposals c = ran_length _ _ _ _ c.loop-h.invariant
