use Rattle.lists.proofs.Steps.{opt_none, opt_some}
use Rattle.lists.proofs.and_opt.Goals as goal

pub returns-in-Some : goal.returns-in-Some
returns-in-Some c = opt_some _ _ _ _ c.in-Some.is c.and_word.ensures

pub returns-in-None : goal.returns-in-None
returns-in-None c = opt_none _ _ _ c.in-None.is
