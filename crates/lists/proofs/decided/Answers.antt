use Rattle.lists.proofs.Steps.{decided_by}
use Rattle.lists.proofs.decided.Goals as goal

pub returns : goal.returns
returns c = decided_by _ _ _ _ _ _ _ _ c.shape_of.ensures c.edge_lits-lits.ensures c.reason_decided_region.ensures
