use mathlib.Core.Path.{sym, ap, ◌∙◌}
use Rattle.std.specs.Prelude.{ℕ, Option}
use Rattle.graph_division.specs.Calls.{reason_given}
use borrow.Author.Rules.{rules}
use Rattle.plan.specs.Words.{words_of}
use Rattle.lent.proofs.fetch.give.Goals as goal

pub returns-in-Some : goal.returns-in-Some
unfolding reason_given
returns-in-Some c =
    let a = c.args in
    c.give_list.ensures ∙ ap (λ (l : Option ℕ). reason_given (words_of a.plan.now) a.list.now l a.buffer.now) (sym c.in-Some.is)

pub returns-in-None : goal.returns-in-None
unfolding reason_given
returns-in-None c =
    let a = c.args in
    ap (λ (l : Option ℕ). reason_given (words_of a.plan.now) a.list.now l a.buffer.now) (sym c.in-None.is)
