use mathlib.Core.Path.{refl}
use Rattle.held_log.specs.Held.{empty}
use Rattle.held_log.proofs.UndoLog.new.Goals as goal

pub returns : goal.returns
unfolding empty
returns c = refl
