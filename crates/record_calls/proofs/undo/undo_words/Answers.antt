use mir.Facts.{to_z-of_z}
use Rattle.graph_division.specs.Calls.{undone}
use mathlib.Core.Path.{sym, ◌∙◌}
use Rattle.base.proofs.Loop.{pick_yes, pick_no}
use Rattle.record_calls.proofs.undo.undo_words.Goals as goal

pub returns-then-reaches : goal.returns-then-reaches
returns-then-reaches c =
    (c.undo.ensures)
    ∙ (λ i. undone (c.args.s) (c.args.cursor) (to_z-of_z (c.ranges.lit) i) (c.args.words.now))
    ∙ sym (pick_yes _ _ (sym (c.reaches.ensures) ∙ (c.if-reaches.true)))

pub returns : goal.returns
returns c = (c.refuse.ensures) ∙ sym (pick_no _ _ (sym (c.reaches.ensures) ∙ (c.if-reaches.false)))
