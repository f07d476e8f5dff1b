use mathlib.Core.List.{[]}
use Rattle.analysis.proofs.Chain.{step3_under, step3_done}
use Rattle.analysis.proofs.Pass.{ran_left}
use Rattle.analysis.proofs.analyze.step3.Goals as goal

pub returns-in_err-cut_upper_bounds : goal.returns-in_err-cut_upper_bounds
returns-in_err-cut_upper_bounds c = ran_left _ _ _ _ _ c.from_residual.ensures.1 (step3_under _ _ _ _ _ [] c.in_err-cut_upper_bounds.ensures)

pub returns : goal.returns
returns c = step3_done _ _ _ _ _ [] c.in_ok-cut_upper_bounds.ensures (c.check_crowded.ensures _)
