use Rattle.lists.proofs.Steps.{inside_by}
use Rattle.lists.proofs.inside.Goals as goal

pub returns : goal.returns
returns c = inside_by _ _ _ _ _ _ _ c.ends_of.ensures c.path.ensures
