use Rattle.analysis.proofs.Pass.{ran_none, ran_more, ran_length}
use Rattle.analysis.proofs.Spreading.{parts_follows}
use Rattle.analysis.proofs.step4.disconnect_parted.Goals as goal

pub loop-g-init : goal.loop-g-init
loop-g-init c = ran_none _ _

pub loop-g-preserved : goal.loop-g-preserved
loop-g-preserved c = ran_more _ (parts_follows _ _ _) _ _ _ _ _ c.loop-g.invariant c.parts.ensures

pub shape_of-proposals : goal.shape_of-proposals
shape_of-proposals c = ran_length _ _ _ _ c.loop-g.invariant
