use mir.Facts.{to_z-of_z}
use Rattle.graph_division.specs.Calls.{propagated}
use mathlib.Core.Path.{sym, ap, ◌∙◌}
use Rattle.base.proofs.Loop.{pick_yes, pick_no}
use Rattle.graph_division.specs.declared.Outcome.{Outcome}
use Rattle.graph_division.specs.Calls.{called}
use Rattle.record_calls.proofs.propagate.propagate_words.Goals as goal

pub returns-then-reaches-clause-after : goal.returns-then-reaches-clause-after
returns-then-reaches-clause-after c =
    (c.propagate.ensures)
    ∙ (λ i. propagated (c.args.s) (c.args.cursor) (to_z-of_z (c.ranges.lit) i) (to_z-of_z (c.ranges.num_pending_propagations) i) (c.args.table.now) (c.args.list.now) (c.args.words.now))
    ∙ sym (pick_yes _ _ (sym (c.reaches.ensures) ∙ (c.if-reaches.true)))

pub returns-clause-after : goal.returns-clause-after
returns-clause-after c = ap (λ (o : Outcome). called o (c.args.table.now) (c.args.list.now) (c.args.words.now)) (c.refuse.ensures) ∙ sym (pick_no _ _ (sym (c.reaches.ensures) ∙ (c.if-reaches.false)))
