use mathlib.Core.Path.{◌≡◌, refl, sym, ap, ap₂, ◌∙◌}
use Rattle.base.proofs.Loop.{pick_yes, pick_no}
use Rattle.desk.specs.Start.{started, started_by, malformed}
use borrow.Author.Rules.{rules}
use Rattle.desk.proofs.start.start.Goals as goal

pub returns-then-well_formed : goal.returns-then-well_formed
unfolding started
returns-then-well_formed c = c.start_plan.ensures ∙ sym (pick_yes _ _ (sym c.well_formed-2.ensures ∙ c.if-well_formed.true))

pub returns : goal.returns
unfolding started
returns c = c.refuse_input.ensures ∙ sym (pick_no _ _ (sym c.well_formed-2.ensures ∙ c.if-well_formed.false))
