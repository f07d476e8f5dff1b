use mathlib.Core.Path.{◌≡◌, refl, sym, ap, ap₂, subst, ◌∙◌}
use native.Mathlib.Omega.{arith}
use Prim.Native.Nat.{ℕ, ◌-◌}
use lib.ListN.{take}
use lib.Seq.{take_all}
use Rattle.desk.proofs.Room.{answer_few, take_min}
use Rattle.desk.proofs.Printing.{answered}
use borrow.Author.Rules.{rules}
use Rattle.desk.proofs.print.print_first.Goals as goal

pub returns : goal.returns
returns c = (
  answered _ _ _ _ _ _ _ c.count_of.ensures c.write_answer.ensures (take_min _ _ _ c.min.ensures),
  answer_few c.args.letter c.args.n c.args.values.now (λ i. (c.type_inv.values i).fits) c.requires,
)
