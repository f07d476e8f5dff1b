use mathlib.Core.Path.{refl}
use native.Mathlib.Omega.{arith}
use Prim.Native.Nat.{◌+◌}
use Rattle.walks.proofs.Walk.{tree_step, tree_done}
use Rattle.base.proofs.Loop.{iter_zero, iter_more}
use Rattle.walks.proofs.write_tree.Goals as goal

pub loop-i-init : goal.loop-i-init
loop-i-init c = iter_zero _ _

pub loop-i-preserved : goal.loop-i-preserved
loop-i-preserved c = iter_more _ _ _ _ _ c.loop-i.invariant (tree_step _ _ _ _ _ _ _ (rw c.from-q.ensures at c.edge_lit.ensures) c.negation.ensures c.push-n.ensures)

pub returns : goal.returns
returns c = tree_done _ _ _ _ _ _ refl c.loop-i.invariant (omega arith) (omega arith)

pub overflow_add-g : goal.overflow_add-g
overflow_add-g c = omega (arith, c.requires.2 (c.loop-i.i + 1) (omega arith))

pub bounds-scan-q : goal.bounds-scan-q
bounds-scan-q c = omega (arith, c.requires.2 (c.loop-i.i + 1) (omega arith))
