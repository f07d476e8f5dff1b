use mathlib.Core.Path.{◌≡◌}
use Rattle.base.specs.Iter.{iter}
use Rattle.noting.specs.Note.{noting}
use Rattle.graph_division.specs.Initialize.{noted_at}
use Rattle.plan.specs.Words.{words_of}
use Rattle.lent.proofs.initialize.note_up_to.Given as goal

abbrev pub invariant-loop-p : goal.invariant-loop-p
invariant-loop-p l = noting l.noted l.log l.c ≡ iter (noted_at (words_of l.plan) l.entry) l.p (noting l.initial.noted l.initial.log l.initial.c)
