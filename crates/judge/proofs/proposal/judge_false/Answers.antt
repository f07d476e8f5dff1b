use Rattle.judge.proofs.Steps.{false_of}
use Rattle.judge.proofs.proposal.judge_false.Goals as goal

pub returns : goal.returns
returns c = false_of _ _ _ _ _ _ _ _ _ _ c.false_lits-r.ensures c.judge_current.ensures
