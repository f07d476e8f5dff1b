use mathlib.Core.Path.{◌≡◌, refl}
use Prim.Native.Nat.{◌-◌, ◌*◌, ◌≤◌}
use native.Mathlib.Omega.{arith}
use lib.ListN.{length}
use Rattle.base.specs.Iter.{iter}
use Rattle.base.proofs.Loop.{iter_zero, iter_more, iter_done}
use Rattle.plan.specs.Words.{words_of, variables_of}
use Rattle.notifications.specs.Notifications.{way, notified_at, notified_all}
use borrow.Author.Rules.{rules}
use Rattle.notifications.proofs.notify_all.Given as goal

abbrev pub invariant-loop-p : goal.invariant-loop-p
invariant-loop-p l = (l.n ≡ 2 * variables_of (words_of l.plan)) × (way l.y l.noted l.table l.list l.words l.proposals l.left ≡ iter (notified_at (words_of l.plan) l.edges l.entry l.log l.used) l.p (way l.initial.y l.initial.noted l.initial.table l.initial.list l.initial.words l.initial.proposals l.initial.left)) × (length l.table ≡ length l.initial.table) × (length l.list ≡ length l.initial.list) × (length l.words ≡ length l.initial.words) × (length l.proposals ≡ length l.initial.proposals) × (length l.left ≡ length l.initial.left)
