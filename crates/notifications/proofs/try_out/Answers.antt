use mathlib.Core.Path.{ap}
use Rattle.noting.specs.Note.{Noting}
use borrow.Author.Rules.{rules}
use Rattle.notifications.proofs.try_out.Goals as goal

pub returns : goal.returns
returns c = (ap (λ (x : Noting). x.noted) c.note-told.ensures.0, c.note-told.ensures.1)
