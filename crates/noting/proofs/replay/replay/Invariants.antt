use mathlib.Core.Path.{◌≡◌}
use mathlib.Core.Bool.{true}
use Prim.Native.Nat.{◌-◌, ◌≤◌}
use lib.ListN.{length}
use Rattle.base.specs.Iter.{iter}
use Rattle.noting.specs.Undo.{records_of}
use Rattle.noting.specs.Standing.{standing}
use Rattle.noting.specs.Replay.{replayed, place, replay_level}
use Rattle.noting.specs.Following.{marks_of}
use Rattle.plan.specs.Words.{words_of}
use Rattle.noting.proofs.replay.replay.Given as goal

abbrev pub invariant-loop-at : goal.invariant-loop-at
invariant-loop-at l = (l.at ≤ l.used) × (l.levels ≤ l.at) × (length (standing (records_of l.log l.at)) ≡ l.levels)
    × (replayed (marks_of l.marks) l.noted (place true l.at) ≡ iter (λ _ y. replay_level (words_of l.plan) l.log l.used y) l.levels (replayed (marks_of l.initial.marks) l.initial.noted (place true 0)))
    × (length l.marks ≡ 34)

abbrev pub decreases-loop-at : goal.decreases-loop-at
decreases-loop-at l = l.used - l.at
