use mathlib.Core.Path.{◌≡◌}
use Prim.Native.Nat.{◌≤◌, ◌-◌}
use lib.ListN.{get_or, set}
use Rattle.base.specs.Iter.{iter}
use Rattle.reasons.specs.declared.reason.Reason.TheVariants.{NotPropagated}
use Rattle.recorded.specs.Recorded.{newest, holding}
use Rattle.recorded.proofs.record.Given as goal

abbrev pub invariant-loop-p : goal.invariant-loop-p
invariant-loop-p l = (l.p ≤ l.n) × (l.t.at ≡ iter (λ p xs. set xs p (newest l.proposals p (get_or xs p (holding NotPropagated)))) l.p l.initial.t.at)

abbrev pub decreases-loop-p : goal.decreases-loop-p
decreases-loop-p l = l.n - l.p
