use Prim.Native.Nat.{◌-◌, ◌≤◌}
use Rattle.sweep.proofs.Next.{NoneIn}
use Rattle.sweep.proofs.next_proposed.Given as goal

abbrev pub invariant-loop-p : goal.invariant-loop-p
invariant-loop-p l = (l.from ≤ l.p) × NoneIn l.proposals l.from l.p

abbrev pub decreases-loop-p : goal.decreases-loop-p
decreases-loop-p l = l.end - l.p
