use mathlib.Core.Path.{◌≡◌}
use mathlib.Core.Bool.{true}
use Prim.Native.Nat.{◌+◌}
use Rattle.base.specs.Iter.{iter}
use Rattle.plan.specs.Words.{words_of, occurrence_at}
use Rattle.noting.specs.Replay.{followed, place, follow_slot}
use Rattle.noting.proofs.replay.follow_at.Given as goal

abbrev pub invariant-loop-i : goal.invariant-loop-i
invariant-loop-i l = (followed l.noted (place true l.at) ≡ iter (λ i y. follow_slot (words_of l.plan) l.log l.used l.lit (occurrence_at (words_of l.plan) (l.from + i)) y) l.i (followed l.initial.noted (place true l.after)))
