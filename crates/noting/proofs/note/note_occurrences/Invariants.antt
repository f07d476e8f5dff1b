use mathlib.Core.Path.{◌≡◌}
use Prim.Native.Nat.{◌+◌}
use Rattle.base.specs.Iter.{iter}
use Rattle.plan.specs.Words.{words_of, occurrence_at}
use Rattle.noting.specs.Note.{noting, note_slot}
use Rattle.noting.proofs.note.note_occurrences.Given as goal

abbrev pub invariant-loop-i : goal.invariant-loop-i
invariant-loop-i l = (noting l.noted l.log l.cur ≡ iter (λ i y. note_slot (words_of l.plan) l.lit (occurrence_at (words_of l.plan) (l.from + i)) y) l.i (noting l.initial.noted l.initial.log l.initial.cur))
