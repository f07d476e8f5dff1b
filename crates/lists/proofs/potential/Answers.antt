use Rattle.lists.proofs.Steps.{potential_by}
use Rattle.lists.proofs.potential.Goals as goal

pub returns : goal.returns
returns c = potential_by _ _ _ _ _ _ _ _ c.shape_of.ensures c.edge_lits-lits.ensures c.reason_potential_region.ensures
