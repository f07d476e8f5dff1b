use mathlib.Core.Path.{sym, ap}
use Rattle.graph_division.specs.Calls.{page_answer}
use borrow.Author.Rules.{rules}
use Rattle.lent.proofs.page.answer_of.Goals as goal

pub returns-in-Ok : goal.returns-in-Ok
returns-in-Ok c = sym (ap page_answer c.in-Ok.is)
