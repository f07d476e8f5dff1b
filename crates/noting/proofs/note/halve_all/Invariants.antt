use mathlib.Core.Path.{◌≡◌}
use Prim.Native.Nat.{◌≤◌}
use Rattle.base.specs.Iter.{iter}
use Rattle.plan.specs.Words.{words_of}
use Rattle.noting.specs.Note.{halved}
use Rattle.noting.proofs.note.halve_all.Given as goal

abbrev pub invariant-loop : goal.invariant-loop
invariant-loop l = (l.p.low ≤ 4294967296) × (l.p.high ≤ 4294967296) × (l.p ≡ iter (halved (words_of l.plan) l.x) l.counter l.initial.p)
