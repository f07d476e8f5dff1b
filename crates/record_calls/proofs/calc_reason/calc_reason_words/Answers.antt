use mir.Facts.{to_z-of_z}
use Rattle.graph_division.specs.Calls.{reason_fetched}
use mathlib.Core.Path.{sym, ◌∙◌}
use Rattle.base.proofs.Loop.{pick_yes, pick_no}
use Rattle.record_calls.proofs.calc_reason.calc_reason_words.Goals as goal

pub returns-then-reaches : goal.returns-then-reaches
returns-then-reaches c =
    (c.calc_reason.ensures)
    ∙ (λ i. reason_fetched (c.args.s) (c.args.cursor) (c.args.words.now) (to_z-of_z (c.ranges.lit) i) (c.args.buffer.now))
    ∙ sym (pick_yes _ _ (sym (c.reaches.ensures) ∙ (c.if-reaches.true)))

pub returns : goal.returns
returns c = sym (pick_no _ _ (sym (c.reaches.ensures) ∙ (c.if-reaches.false)))
