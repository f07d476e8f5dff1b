use Rattle.byte_calls.specs.Layout.{used_entries}
use Rattle.byte_calls.proofs.Filling.{capped_min}
use Rattle.byte_calls.proofs.decode.room_of.Goals as goal

pub returns : goal.returns
unfolding used_entries
returns c = capped_min _ _ _ c.min.ensures
