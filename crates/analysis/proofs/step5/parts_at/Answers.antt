use native.Mathlib.Omega.{arith}
use Rattle.division.specs.Analysis.{parts_at}
use Rattle.analysis.proofs.Pass.{ran_none, ran_more, ran_done, ran_length, ran_stop}
use Rattle.analysis.proofs.Forks.{part_from_follows}
use Rattle.analysis.proofs.step5.parts_at.Goals as goal

pub loop-g-init : goal.loop-g-init
loop-g-init c = ran_none _ _

pub loop-g-preserved : goal.loop-g-preserved
loop-g-preserved c = ran_more _ (part_from_follows _ _ _ _) _ _ _ _ _ c.loop-g.invariant c.in_ok-part_from.ensures

pub shape_of-proposals-in_err-part_from : goal.shape_of-proposals-in_err-part_from
shape_of-proposals-in_err-part_from c = ran_length _ _ _ _ (ran_more _ (part_from_follows _ _ _ _) _ _ _ _ _ c.loop-g.invariant c.in_err-part_from.ensures)

pub returns-in_err-part_from : goal.returns-in_err-part_from
unfolding parts_at
returns-in_err-part_from c = ran_stop _ (part_from_follows _ _ _ _) _ _ _ _ _ _ _ c.from_residual.ensures.1 (omega arith) c.loop-g.invariant c.in_err-part_from.ensures

pub shape_of-proposals : goal.shape_of-proposals
shape_of-proposals c = ran_length _ _ _ _ c.loop-g.invariant

pub returns : goal.returns
unfolding parts_at
returns c = ran_done _ _ _ _ _ c.loop-g.invariant (omega arith) (omega arith)
