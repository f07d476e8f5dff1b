use mathlib.Core.Path.{◌≡◌, ap, ◌∙◌}
use mathlib.Core.Bool.{true}
use Prim.Native.Nat.{◌-◌, ◌*◌, ◌<◌, ◌≤◌}
use native.Mathlib.Omega.{arith}
use lib.ListN.{length}
use Rattle.base.specs.Iter.{iter}
use Rattle.base.proofs.Loop.{iter_zero, iter_more, iter_done}
use Rattle.plan.specs.Words.{words_of, variables_of}
use Rattle.notifications.specs.Notifications.{merged_at, merged}
use Rattle.sweep.specs.Sweep.{proposed_at}
use Rattle.sweep.proofs.Next.{next_told, next_turn, proposed_low}
use Rattle.notifications.proofs.Cases.{merged_length, merged_idle}
use borrow.Author.Rules.{rules}
use Rattle.notifications.proofs.merge.merge.Given as goal

abbrev pub invariant-loop-p : goal.invariant-loop-p
invariant-loop-p l = (l.p ≤ l.n) × ((l.n ≡ 2 * variables_of (words_of l.plan)) × (l.words ≡ iter (merged_at l.proposals) l.p l.initial.words))
    × (l.p < l.n → proposed_at l.proposals l.p ≡ true)

abbrev pub decreases-loop-p : goal.decreases-loop-p
decreases-loop-p l = l.n - l.p
