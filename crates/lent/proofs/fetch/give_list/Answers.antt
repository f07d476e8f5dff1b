use mathlib.Core.Path.{sym, ap, ◌∙◌}
use Rattle.base.proofs.Loop.{pick_yes, pick_no}
use Rattle.graph_division.specs.declared.Answer.TheVariants as answer
use Rattle.graph_division.specs.Calls.{fetched, copied}
use borrow.Author.Rules.{rules}
use Rattle.lent.proofs.fetch.give_list.Goals as goal

pub returns-then-reason_over : goal.returns-then-reason_over
unfolding copied
returns-then-reason_over c = sym (pick_yes _ _ (sym c.reason_over.ensures ∙ c.if-reason_over.true))

pub returns : goal.returns
unfolding copied
returns c = ap (fetched (answer.Reason _)) c.copy.ensures ∙ sym (pick_no _ _ (sym c.reason_over.ensures ∙ c.if-reason_over.false))
