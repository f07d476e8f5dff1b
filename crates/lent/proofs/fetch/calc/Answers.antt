use mathlib.Core.Path.{sym, ap, ◌∙◌}
use Rattle.walks.specs.Answers as walks
use Rattle.walks.specs.Written.{out_of}
use Rattle.lists.specs.Lists.{reason_lits}
use Rattle.base.proofs.Loop.{pick_yes, pick_no}
use Rattle.graph_division.specs.Calls.{giving, list_for, reason_given}
use borrow.Author.Rules.{rules}
use Rattle.plan.specs.Words.{words_of}
use Rattle.lent.proofs.fetch.calc.Goals as goal

pub returns-then-is_none : goal.returns-then-is_none
unfolding giving
returns-then-is_none c = λ rs last len b. sym (pick_yes _ _ (sym c.is_none.ensures ∙ c.if-is_none.true))

pub returns : goal.returns
unfolding giving list_for
returns c =
    let a = c.args in
    λ rs last len b.
    c.give.ensures
    ∙ (ap (λ (x : walks.Answer). reason_given (words_of a.plan.now) x.text x.listed a.buffer.now) (c.reason_lits-listed.ensures ∙ (λ i. reason_lits (words_of a.plan.now) a.edges a.noted.now a.reason (out_of (c.no_list-list.ensures i) 0)))
    ∙ sym (pick_no _ _ (sym c.is_none.ensures ∙ c.if-is_none.false)))
