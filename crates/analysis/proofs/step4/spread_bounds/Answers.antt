use Rattle.analysis.proofs.Pass.{ran_none, ran_more, ran_length}
use Rattle.analysis.proofs.Spreading.{spreads_follows}
use Rattle.analysis.proofs.step4.spread_bounds.Goals as goal

pub loop-v-init : goal.loop-v-init
loop-v-init c = ran_none _ _

pub loop-v-preserved : goal.loop-v-preserved
loop-v-preserved c = ran_more _ (spreads_follows _ _ _) _ _ _ _ _ c.loop-v.invariant c.spreads.ensures

pub shape_of-proposals : goal.shape_of-proposals
shape_of-proposals c = ran_length _ _ _ _ c.loop-v.invariant
