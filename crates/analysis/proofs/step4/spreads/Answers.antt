use Rattle.division.specs.Analysis.{spreads}
use Rattle.analysis.proofs.Pass.{ran_after}
use Rattle.analysis.proofs.Spreading.{spreads_high_follows}
use Rattle.analysis.proofs.step4.spreads.Goals as goal

pub returns : goal.returns
unfolding spreads
returns c = ran_after _ (spreads_high_follows _ _ _ _) _ _ _ _ _ c.spreads_low.ensures c.spreads_high.ensures
