use mathlib.Core.Path.{◌≡◌, refl, sym, ap, ap₂, ◌∙◌}
use Rattle.base.proofs.Loop.{pick_yes, pick_no}
use borrow.Author.Rules.{rules}
use Rattle.desk.proofs.table.code_of.Goals as goal

pub returns-then-is_positive : goal.returns-then-is_positive
returns-then-is_positive c = sym (pick_yes _ _ (sym c.is_positive.ensures ∙ c.if-is_positive.true))

pub returns : goal.returns
returns c = sym (pick_no _ _ (sym c.is_positive.ensures ∙ c.if-is_positive.false))
