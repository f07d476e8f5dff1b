use mathlib.Core.Path.{sym, ◌∙◌}
use Rattle.base.proofs.Loop.{pick_yes, pick_no}
use Rattle.record_calls.proofs.calc_reason.calc_last_words.Goals as goal

pub returns-then-reaches : goal.returns-then-reaches
returns-then-reaches c = (c.calc_last.ensures) ∙ sym (pick_yes _ _ (sym (c.reaches.ensures) ∙ (c.if-reaches.true)))

pub returns : goal.returns
returns c = sym (pick_no _ _ (sym (c.reaches.ensures) ∙ (c.if-reaches.false)))
