use mathlib.Core.List.{[]}
use Rattle.division.specs.Analysis.{spreads, spreads_low, spreads_high}
use Rattle.analysis.proofs.Chain.{step4_apart, step4_done}
use Rattle.analysis.proofs.Pass.{ran_left}
use Rattle.analysis.proofs.analyze.step4.Goals as goal

pub returns-in_err-check_meets : goal.returns-in_err-check_meets
unfolding spreads spreads_low spreads_high
returns-in_err-check_meets c = ran_left _ _ _ _ _ c.from_residual.ensures.1 (step4_apart _ _ _ _ [] [] (c.in_err-check_meets.ensures _))

pub returns : goal.returns
unfolding spreads spreads_low spreads_high
returns c = step4_done _ _ _ _ _ _ (c.in_ok-check_meets.ensures _) c.disconnect_parted.ensures c.spread_bounds.ensures
