use mathlib.Core.Path.{◌≡◌}
use Prim.Native.Nat.{◌-◌, ◌*◌, ◌≤◌}
use Rattle.base.specs.Iter.{iter}
use Rattle.plan.specs.Words.{words_of, variables_of}
use Rattle.sweep.specs.Sweep.{handing, handed_at}
use Rattle.sweep.proofs.hand_on.Given as goal

abbrev pub invariant-loop-p : goal.invariant-loop-p
invariant-loop-p l = (l.p ≤ l.n) × ((l.n ≡ 2 * variables_of (words_of l.plan)) × (handing l.table l.list l.past ≡ iter (handed_at (words_of l.plan) l.proposals) l.p (handing l.initial.table l.initial.list l.at)))

abbrev pub decreases-loop-p : goal.decreases-loop-p
decreases-loop-p l = l.n - l.p
