use mathlib.Core.Path.{◌≡◌}
use Prim.Native.Nat.{ℕ, ◌-◌, ◌*◌, ◌≤◌, ◌<◌}
use mathlib.Core.Bool.{false}
use Rattle.plan.specs.Words.{words_of, variables_of}
use Rattle.sweep.specs.Sweep.{false_at}
use Rattle.sweep.proofs.first_false.Given as goal

abbrev pub invariant-loop-p : goal.invariant-loop-p
invariant-loop-p l = (l.p ≤ l.n) × ((l.n ≡ 2 * variables_of (words_of l.plan)) × ((k : ℕ) → k < l.p → false_at (words_of l.plan) l.proposals l.table k ≡ false))

abbrev pub decreases-loop-p : goal.decreases-loop-p
decreases-loop-p l = l.n - l.p
