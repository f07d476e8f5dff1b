use native.Mathlib.Omega.{arith}
use Rattle.analysis.proofs.Pass.{ran_none, ran_more, ran_length, ran_stop}
use Rattle.analysis.proofs.Matching.{inside_follows}
use Rattle.analysis.proofs.step1.connect_inside.Goals as goal

pub loop-g-init : goal.loop-g-init
loop-g-init c = ran_none _ _

pub loop-g-preserved : goal.loop-g-preserved
loop-g-preserved c = ran_more _ (inside_follows _ _ _) _ _ _ _ _ c.loop-g.invariant c.in_ok-inside.ensures

pub shape_of-proposals-in_err-inside : goal.shape_of-proposals-in_err-inside
shape_of-proposals-in_err-inside c = ran_length _ _ _ _ (ran_more _ (inside_follows _ _ _) _ _ _ _ _ c.loop-g.invariant c.in_err-inside.ensures)

pub returns-in_err-inside : goal.returns-in_err-inside
returns-in_err-inside c = ran_stop _ (inside_follows _ _ _) _ _ _ _ _ _ _ c.from_residual.ensures.1 (omega arith) c.loop-g.invariant c.in_err-inside.ensures

pub shape_of-proposals : goal.shape_of-proposals
shape_of-proposals c = ran_length _ _ _ _ c.loop-g.invariant
