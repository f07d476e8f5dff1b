use mathlib.Core.Path.{ap, ◌∙◌}
use Rattle.noting.proofs.Steps.{note_known, note_unknown}
use lib.ListN.{length}
use Rattle.noting.proofs.Pushing.{push_length, at_length}
use Rattle.noting.specs.Note.{Noting, place_in, known}
use Rattle.plan.specs.Words.{words_of}
use Rattle.noting.proofs.note.note_level.Goals as goal

pub note_at-requires : goal.note_at-requires
note_at-requires c = c.search-k.ensures.1

pub shape_of-log-then-known : goal.shape_of-log-then-known
shape_of-log-then-known c = ap (λ (x : Noting). length x.log) c.note_at.ensures ∙ at_length _ _ _ _ ∙ ap length c.push_level-c.ensures.1 ∙ push_length _ _ _

pub returns-then-known : goal.returns-then-known
returns-then-known c = note_known (words_of c.args.plan.now) c.args.noted.now c.args.log.now c.args.cursor c.args.lit _ _ c.push_level-c.ensures.0 c.push_level-c.ensures.1 c.known.result (c.known.ensures ∙ ap (known (words_of c.args.plan.now)) c.variable-x.ensures) c.if-known.true c.search-k.result (c.search-k.ensures.0 ∙ ap (place_in (words_of c.args.plan.now)) c.variable-x.ensures) _ c.note_at.ensures

pub shape_of-log : goal.shape_of-log
shape_of-log c = ap length c.push_level-c.ensures.1 ∙ push_length _ _ _

pub returns : goal.returns
returns c = note_unknown (words_of c.args.plan.now) c.args.noted.now c.args.log.now c.args.cursor c.args.lit _ _ c.push_level-c.ensures.0 c.push_level-c.ensures.1 c.known.result (c.known.ensures ∙ ap (known (words_of c.args.plan.now)) c.variable-x.ensures) c.if-known.false
