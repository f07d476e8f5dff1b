use native.Mathlib.Omega.{arith}
use Rattle.analysis.proofs.Bounds.{overfull_not, overfull_is}
use Rattle.analysis.proofs.step2.overfull.Goals as goal

pub returns-then-upper_bound-decided_weight : goal.returns-then-upper_bound-decided_weight
returns-then-upper_bound-decided_weight c = λ a. overfull_is _ _ _ _ a (omega arith)

pub returns : goal.returns
returns c = λ a. overfull_not _ _ _ _ a (omega arith)
