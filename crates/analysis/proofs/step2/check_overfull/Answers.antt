use native.Mathlib.Omega.{arith}
use Rattle.analysis.proofs.Pass.{ran_none, ran_more, ran_stop}
use Rattle.analysis.proofs.Bounds.{overfull_follows}
use Rattle.analysis.proofs.step2.check_overfull.Goals as goal

pub loop-v-init : goal.loop-v-init
loop-v-init c = λ a. ran_none _ a

pub loop-v-preserved : goal.loop-v-preserved
loop-v-preserved c = λ a. ran_more _ (overfull_follows _ _ _) _ _ _ _ _ (c.loop-v.invariant a) (c.in_ok-overfull.ensures a)

pub returns-in_err-overfull : goal.returns-in_err-overfull
returns-in_err-overfull c = λ a. ran_stop _ (overfull_follows _ _ _) _ _ _ _ _ _ _ c.from_residual.ensures.1 (omega arith) (c.loop-v.invariant a) (c.in_err-overfull.ensures a)
