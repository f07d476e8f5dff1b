use native.Mathlib.Omega.{arith}
use Rattle.judge.proofs.Steps.{proposals_false, proposals_fine}
use Rattle.judge.proofs.proposal.judge_proposals.Goals as goal

pub returns-then-p-num_variables : goal.returns-then-p-num_variables
returns-then-p-num_variables c = proposals_false _ _ _ _ _ _ _ c.first_false-p.ensures _ (omega arith) c.judge_false.ensures

pub returns : goal.returns
returns c = proposals_fine _ _ _ _ _ _ _ c.first_false-p.ensures (omega arith)
