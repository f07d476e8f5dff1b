use native.Mathlib.Omega.{arith}
use Rattle.analysis.proofs.Pass.{ran_none, ran_more, ran_length, ran_stop}
use Rattle.analysis.proofs.Bounds.{cuts_follows}
use Rattle.analysis.proofs.step3.cut_upper_bounds.Goals as goal

pub loop-v-init : goal.loop-v-init
loop-v-init c = ran_none _ _

pub loop-v-preserved : goal.loop-v-preserved
loop-v-preserved c = ran_more _ (cuts_follows _ _ _) _ _ _ _ _ c.loop-v.invariant c.in_ok-cuts.ensures

pub shape_of-proposals-in_err-cuts : goal.shape_of-proposals-in_err-cuts
shape_of-proposals-in_err-cuts c = ran_length _ _ _ _ (ran_more _ (cuts_follows _ _ _) _ _ _ _ _ c.loop-v.invariant c.in_err-cuts.ensures)

pub returns-in_err-cuts : goal.returns-in_err-cuts
returns-in_err-cuts c = ran_stop _ (cuts_follows _ _ _) _ _ _ _ _ _ _ c.from_residual.ensures.1 (omega arith) c.loop-v.invariant c.in_err-cuts.ensures

pub shape_of-proposals : goal.shape_of-proposals
shape_of-proposals c = ran_length _ _ _ _ c.loop-v.invariant
