use mathlib.Core.Path.{ap, ◌∙◌}
use Prim.Native.Nat.{ℕ}
use native.Mathlib.Omega.{arith}
use Rattle.base.proofs.Loop.{iter_zero, iter_more, iter_done}
use lib.ListN.{length}
use Rattle.noting.proofs.Pushing.{slots_length}
use Rattle.plan.specs.Words.{words_of}
use Rattle.noting.specs.Note.{Noting, noting, note_slot}
use Rattle.noting.proofs.note.note_occurrences.Goals as goal

pub loop-i-init : goal.loop-i-init
loop-i-init c = iter_zero _ _

pub loop-i-preserved : goal.loop-i-preserved
loop-i-preserved c = (iter_more _ _ _ _ _ c.loop-i.invariant (c.note_slot-cur.ensures ∙ ap (λ (s : ℕ). note_slot (words_of c.args.plan.now) c.args.lit s (noting c.loop-i.noted c.loop-i.log c.loop-i.cur)) c.occurrence_at-s.ensures))

pub shape_of-log : goal.shape_of-log
shape_of-log c = ap (λ (x : Noting). length x.log) c.loop-i.invariant ∙ slots_length _ _ _ c.loop-i.i _

pub returns : goal.returns
returns c = iter_done _ _ _ _ _ c.loop-i.invariant (omega arith) (omega arith)
