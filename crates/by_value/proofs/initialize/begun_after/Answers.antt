use mathlib.Core.Path.{sym, ap, ◌∙◌}
use Rattle.base.proofs.Loop.{pick_yes, pick_no}
use Rattle.lent.specs.Lent.{with_initialized, begun_after}
use borrow.Author.Rules.{rules}
use Rattle.by_value.proofs.initialize.begun_after.Goals as goal

pub returns-then-is_consistent : goal.returns-then-is_consistent
unfolding begun_after with_initialized
returns-then-is_consistent c = ap with_initialized c.state_after-state.ensures ∙ sym (pick_yes _ _ (sym c.is_consistent.ensures ∙ c.if-is_consistent.true))

pub returns : goal.returns
unfolding begun_after
returns c = c.state_after-state.ensures ∙ sym (pick_no _ _ (sym c.is_consistent.ensures ∙ c.if-is_consistent.false))
