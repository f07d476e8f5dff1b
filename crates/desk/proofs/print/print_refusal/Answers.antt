use mathlib.Core.Path.{◌≡◌, refl, sym, ap, ap₂, subst, ◌∙◌}
use native.Mathlib.Omega.{arith}
use Rattle.desk.proofs.Room.{refusal_few}
use Rattle.desk.proofs.Printing.{answered}
use borrow.Author.Rules.{rules}
use Rattle.desk.proofs.print.print_refusal.Goals as goal

pub returns : goal.returns
returns c = (answered _ _ _ _ _ _ _ c.count_of.ensures c.write_answer.ensures refl, refusal_few _ _ (omega arith))
