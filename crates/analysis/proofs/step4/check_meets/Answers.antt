use native.Mathlib.Omega.{arith}
use Rattle.analysis.proofs.Pass.{ran_none, ran_more, ran_stop}
use Rattle.analysis.proofs.Meeting.{meets_first_follows}
use Rattle.analysis.proofs.step4.check_meets.Goals as goal

pub loop-r-init : goal.loop-r-init
loop-r-init c = λ a. ran_none _ a

pub loop-r-preserved : goal.loop-r-preserved
loop-r-preserved c = λ a. ran_more _ (meets_first_follows _ _ _) _ _ _ _ _ (c.loop-r.invariant a) (c.in_ok-meets_first.ensures a)

pub returns-in_err-meets_first : goal.returns-in_err-meets_first
returns-in_err-meets_first c = λ a. ran_stop _ (meets_first_follows _ _ _) _ _ _ _ _ _ _ c.from_residual.ensures.1 (omega arith) (c.loop-r.invariant a) (c.in_err-meets_first.ensures a)
