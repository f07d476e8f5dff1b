use lib.ListN.{length}
use mathlib.Core.Path.{ap, ◌∙◌}
use Rattle.noting.proofs.Steps.{slot_idle, slot_noted}
use Rattle.noting.proofs.Pushing.{push_length}
use Rattle.plan.specs.Words.{words_of}
use Rattle.noting.proofs.note.note_slot.Goals as goal

pub returns-then-e-eq-NOTHING : goal.returns-then-e-eq-NOTHING
returns-then-e-eq-NOTHING c = slot_idle (words_of c.args.plan.now) c.args.noted.now c.args.log.now c.args.cursor c.args.lit c.args.s c.effect_of-e.result c.effect_of-e.ensures c.if-e-eq-NOTHING.true

pub shape_of-log : goal.shape_of-log
shape_of-log c = ap length c.push-c.ensures.1 ∙ push_length _ _ _

pub returns : goal.returns
returns c = slot_noted (words_of c.args.plan.now) c.args.noted.now c.args.log.now c.args.cursor c.args.lit c.args.s c.effect_of-e.result c.effect_of-e.ensures c.if-e-eq-NOTHING.false _ _ _ _ c.undo_record-r.ensures c.push-c.ensures.0 c.push-c.ensures.1 c.apply.ensures
