use Rattle.walks.specs.Written.{written}
use Rattle.walks.specs.Answers.{given}
use Rattle.lists.specs.Conflicts.{crossing_lits}
use Rattle.lists.proofs.conflict.crossing.Goals as goal

pub returns : goal.returns
unfolding crossing_lits given written
returns c = c.span.ensures
