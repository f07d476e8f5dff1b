use native.Mathlib.Omega.{arith}
use Rattle.analysis.proofs.Bounds.{uncrossed_not, uncrossed_is}
use Rattle.analysis.proofs.step2.check_crossed.Goals as goal

pub returns-then-crossed-num_vertices : goal.returns-then-crossed-num_vertices
returns-then-crossed-num_vertices c = λ a. uncrossed_is _ _ _ _ a (omega arith)

pub returns : goal.returns
returns c = λ a. uncrossed_not _ _ _ _ a (omega arith)
