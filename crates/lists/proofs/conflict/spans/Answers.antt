use mathlib.Core.Path.{refl, ◌∙◌}
use native.Mathlib.Omega.{arith}
use Rattle.base.proofs.Loop.{iter_zero, iter_more}
use Rattle.lists.proofs.Spans.{span_keeps, span_step, spans_done, chosen_min}
use Rattle.lists.proofs.conflict.spans.Goals as goal

pub loop-i-init : goal.loop-i-init
loop-i-init c = (iter_zero _ _, refl)

pub loop-i-preserved : goal.loop-i-preserved
loop-i-preserved c = (iter_more _ _ _ _ _ c.loop-i.invariant.0 (span_step _ _ _ _ _ c.from.ensures c.span-a.ensures), span_keeps _ _ _ _ c.span-a.ensures ∙ c.loop-i.invariant.1)

pub returns : goal.returns
returns c = spans_done _ _ _ _ _ _ _ (c.min-n.ensures ∙ chosen_min _) c.loop-i.invariant.0 (omega arith) (omega arith)
