use Rattle.lists.proofs.Steps.{word_past, word_stop}
use Rattle.lists.proofs.and_word.Goals as goal

pub returns-in_err-r : goal.returns-in_err-r
returns-in_err-r c = rw c.from_residual.ensures (word_stop _ _ _ c.in_err-r.was)

pub returns : goal.returns
returns c = word_past _ _ _ _ _ c.in_ok-r.was c.push.ensures
