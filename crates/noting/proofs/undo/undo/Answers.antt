use Rattle.noting.proofs.Back.{undo_is}
use Rattle.noting.proofs.undo.undo.Goals as goal

pub returns : goal.returns
returns c = undo_is c.args.noted.now c.args.log.now _ c.args.cursor _ _ c.take_back.ensures.0 c.take_back.ensures.1 c.saturating_sub.ensures
