use Rattle.lists.proofs.Steps.{large_by}
use Rattle.lists.proofs.too_large.Goals as goal

pub returns : goal.returns
returns c = large_by _ _ _ _ _ _ _ _ _ c.ends_of-e.ensures c.two_regions-r.ensures c.and_opt.ensures
