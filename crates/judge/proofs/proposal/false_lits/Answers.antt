use Rattle.judge.proofs.Steps.{false_by}
use Rattle.judge.proofs.proposal.false_lits.Goals as goal

pub returns : goal.returns
returns c = false_by _ _ _ _ _ _ _ _ _ _ c.reason_at.ensures c.reason_lits-r.ensures c.negation_at.ensures c.and_word.ensures
