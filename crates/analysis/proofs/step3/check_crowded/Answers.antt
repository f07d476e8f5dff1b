use native.Mathlib.Omega.{arith}
use Rattle.views.proofs.Sums.{sums_at}
use Rattle.analysis.proofs.Pass.{ran_none, ran_more, ran_stop}
use Rattle.analysis.proofs.Meeting.{crowds_follows}
use Rattle.analysis.proofs.step3.check_crowded.Goals as goal

pub loop-r-init : goal.loop-r-init
loop-r-init c = λ a. ran_none _ a

pub crowds-requires : goal.crowds-requires
crowds-requires c = (c.requires, sums_at _ _ _ _ _ _ c.lower_bound_sums-sums.ensures c.num_vertices-n.ensures (omega arith))

pub loop-r-preserved : goal.loop-r-preserved
loop-r-preserved c = λ a. ran_more _ (crowds_follows _ _ _) _ _ _ _ _ (c.loop-r.invariant a) (c.in_ok-crowds.ensures a)

pub returns-in_err-crowds : goal.returns-in_err-crowds
returns-in_err-crowds c = λ a. ran_stop _ (crowds_follows _ _ _) _ _ _ _ _ _ _ c.from_residual.ensures.1 (omega arith) (c.loop-r.invariant a) (c.in_err-crowds.ensures a)
