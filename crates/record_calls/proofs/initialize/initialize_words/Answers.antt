use mathlib.Core.Path.{sym, ap, ◌∙◌}
use Rattle.base.proofs.Loop.{pick_yes, pick_no}
use Rattle.graph_division.specs.declared.Outcome.{Outcome}
use Rattle.graph_division.specs.Calls.{called}
use Rattle.record_calls.proofs.initialize.initialize_words.Goals as goal

pub returns-then-reaches-clause-after : goal.returns-then-reaches-clause-after
returns-then-reaches-clause-after c = (c.initialize.ensures) ∙ sym (pick_yes _ _ (sym (c.reaches.ensures) ∙ (c.if-reaches.true)))

pub returns-clause-after : goal.returns-clause-after
returns-clause-after c = ap (λ (o : Outcome). called o (c.args.table.now) (c.args.list.now) (c.args.words.now)) (c.refuse.ensures) ∙ sym (pick_no _ _ (sym (c.reaches.ensures) ∙ (c.if-reaches.false)))
