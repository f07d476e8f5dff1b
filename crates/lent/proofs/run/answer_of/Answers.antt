use mathlib.Core.Path.{sym, ap}
use Rattle.graph_division.specs.Calls.{run_answer}
use borrow.Author.Rules.{rules}
use Rattle.lent.proofs.run.answer_of.Goals as goal

pub returns-in-Some : goal.returns-in-Some
returns-in-Some c = sym (ap run_answer c.in-Some.is)

pub returns-in-None : goal.returns-in-None
returns-in-None c = sym (ap run_answer c.in-None.is)
