use mathlib.Core.Path.{refl}
use Rattle.noting.specs.Following.{mark_in}
use Rattle.noting.proofs.Marks.{marked_bit}
use Rattle.noting.proofs.replay.marked.Goals as goal

pub returns-else-k-ge2176 : goal.returns-else-k-ge2176
unfolding mark_in
returns-else-k-ge2176 c = marked_bit _ _ c.if-k-ge2176.false _ refl
