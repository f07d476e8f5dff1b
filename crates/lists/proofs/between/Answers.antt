use Rattle.lists.proofs.Steps.{between_by}
use Rattle.lists.proofs.between.Goals as goal

pub returns : goal.returns
returns c = between_by _ _ _ _ _ _ _ _ _ _ _ _ c.ends_of-d.ensures c.ends_of-e.ensures c.two_paths-r.ensures c.edge_lit.ensures c.and_word.ensures
