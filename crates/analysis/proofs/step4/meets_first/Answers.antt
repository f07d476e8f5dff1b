use native.Mathlib.Omega.{arith}
use Rattle.analysis.proofs.Meeting.{first_met, first_not}
use Rattle.analysis.proofs.step4.meets_first.Goals as goal

pub returns-then-region_upper_bound-region_lower_bound : goal.returns-then-region_upper_bound-region_lower_bound
returns-then-region_upper_bound-region_lower_bound c = λ a. first_not _ _ _ _ a _ (omega arith) (c.meets.ensures a)

pub returns : goal.returns
returns c = λ a. first_met _ _ _ _ a (omega arith)
