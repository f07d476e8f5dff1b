use Rattle.std.proofs.Common.{◌≡◌, length, ap, ◌∙◌}
use Rattle.std.specs.Prelude.{Option}
use Rattle.std.specs.Option.{unwrap_or}
use Rattle.undo_log.specs.declared.Cursor.{Cursor}
use Rattle.noting.proofs.Pushing.{moved_or_here, push_length}
use Rattle.noting.proofs.note.push.Goals as goal

pub shape_of-log : goal.shape_of-log
shape_of-log c = ap length c.push.ensures.1 ∙ push_length _ _ _

pub returns : goal.returns
returns c =
    let here = c.args.cursor in
    (c.unwrap_or.ensures ∙ ap (λ (x : Option Cursor). unwrap_or x here) c.push.ensures.0 ∙ moved_or_here _ here, c.push.ensures.1)
