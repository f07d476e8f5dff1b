use Rattle.lists.proofs.Spans.{apart_by}
use Rattle.lists.proofs.conflict.apart.Goals as goal

pub returns : goal.returns
returns c = apart_by _ _ _ _ _ _ _ _ _ _ _ c.path-r.ensures c.lower_bound_lit.ensures c.and_lit-s.ensures c.upper_bound_lit.ensures c.and_lit.ensures
