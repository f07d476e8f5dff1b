use native.Mathlib.Omega.{arith}
use Rattle.analysis.proofs.Pass.{ran_none, ran_more, ran_length, ran_stop}
use Rattle.analysis.proofs.Forks.{parts_at_follows}
use Rattle.analysis.proofs.step5.disconnect_same_size.Goals as goal

pub loop-u-init : goal.loop-u-init
loop-u-init c = ran_none _ _

pub loop-u-preserved : goal.loop-u-preserved
loop-u-preserved c = ran_more _ (parts_at_follows _ _ _) _ _ _ _ _ c.loop-u.invariant c.in_ok-parts_at.ensures

pub shape_of-proposals-in_err-parts_at : goal.shape_of-proposals-in_err-parts_at
shape_of-proposals-in_err-parts_at c = ran_length _ _ _ _ (ran_more _ (parts_at_follows _ _ _) _ _ _ _ _ c.loop-u.invariant c.in_err-parts_at.ensures)

pub returns-in_err-parts_at : goal.returns-in_err-parts_at
returns-in_err-parts_at c = ran_stop _ (parts_at_follows _ _ _) _ _ _ _ _ _ _ c.from_residual.ensures.1 (omega arith) c.loop-u.invariant c.in_err-parts_at.ensures

pub shape_of-proposals : goal.shape_of-proposals
shape_of-proposals c = ran_length _ _ _ _ c.loop-u.invariant
