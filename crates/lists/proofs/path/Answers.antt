use Rattle.lists.proofs.Steps.{path_by}
use Rattle.lists.proofs.path.Goals as goal

pub returns : goal.returns
returns c = path_by _ _ _ _ _ _ _ _ c.shape_of.ensures c.edge_lits-lits.ensures c.reason_connected_path.ensures
