use Rattle.lists.proofs.Steps.{lit_none, lit_some}
use Rattle.lists.proofs.and_lit.Goals as goal

pub returns-then-x-eq65535 : goal.returns-then-x-eq65535
returns-then-x-eq65535 c = lit_none _ _ _ c.if-x-eq65535.true

pub returns : goal.returns
returns c = lit_some _ _ _ c.if-x-eq65535.false c.and_word.ensures
