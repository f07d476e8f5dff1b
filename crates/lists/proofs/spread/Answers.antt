use Rattle.lists.proofs.Steps.{spread_by}
use Rattle.lists.proofs.spread.Goals as goal

pub returns : goal.returns
returns c = spread_by _ _ _ _ _ _ _ _ _ c.path-r.ensures c.and_opt.ensures
