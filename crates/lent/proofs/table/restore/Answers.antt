use mathlib.Core.Path.{◌≡◌, ap, ◌∙◌, refl}
use Prim.Native.Nat.{◌≤◌}
use native.Mathlib.Omega.{arith}
use lib.ListN.{length}
use Rattle.base.proofs.Filled.{filled_length}
use Rattle.views.proofs.Filling.{filled_zero, filled_more, filled_done}
use Rattle.lent.proofs.Saved.{restored_tab}
use borrow.Author.Rules.{rules}
use Rattle.lent.proofs.table.restore.Goals as goal

pub loop-i-init : goal.loop-i-init
loop-i-init c = filled_zero 0 _ _

pub loop-i-preserved : goal.loop-i-preserved
loop-i-preserved c =
    filled_more 0 _ _ _ _ _ _ c.loop-i.invariant (omega arith) (search rules)

pub returns : goal.returns
returns c = filled_done 0 _ _ _ _ _ c.loop-i.invariant (omega arith) (omega arith) ∙ restored_tab _ _ c.min-i-end.ensures _
