use Rattle.lists.proofs.Spans.{span_by}
use Rattle.lists.proofs.conflict.span.Goals as goal

pub returns : goal.returns
returns c = span_by _ _ _ _ _ _ _ c.lower_bound_lit.ensures c.and_lit-s.ensures c.upper_bound_lit.ensures c.and_lit.ensures
