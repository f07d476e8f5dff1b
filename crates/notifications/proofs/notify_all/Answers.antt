use mathlib.Core.Path.{◌≡◌, refl}
use Prim.Native.Nat.{◌-◌, ◌*◌, ◌≤◌}
use native.Mathlib.Omega.{arith}
use lib.ListN.{length}
use Rattle.base.specs.Iter.{iter}
use Rattle.base.proofs.Loop.{iter_zero, iter_more, iter_done}
use Rattle.plan.specs.Words.{words_of, variables_of}
use Rattle.notifications.specs.Notifications.{way, notified_at, notified_all}
use borrow.Author.Rules.{rules}
use Rattle.notifications.proofs.notify_all.Goals as goal

pub loop-p-init : goal.loop-p-init
loop-p-init c = (omega arith, iter_zero _ _, refl, refl, refl, refl, refl)

pub loop-p-preserved : goal.loop-p-preserved
loop-p-preserved c = (c.loop-p.invariant.0, iter_more _ _ _ _ _ c.loop-p.invariant.1 c.notify_at-y.ensures, omega arith, omega arith, omega arith, omega arith, omega arith)

pub shape_of-table : goal.shape_of-table
shape_of-table c = c.loop-p.invariant.2

pub shape_of-list : goal.shape_of-list
shape_of-list c = c.loop-p.invariant.3

pub shape_of-words : goal.shape_of-words
shape_of-words c = c.loop-p.invariant.4

pub shape_of-proposals : goal.shape_of-proposals
shape_of-proposals c = c.loop-p.invariant.5

pub shape_of-left : goal.shape_of-left
shape_of-left c = c.loop-p.invariant.6

pub returns : goal.returns
unfolding notified_all
returns c = iter_done _ _ _ _ _ c.loop-p.invariant.1 (omega arith) (omega arith)
