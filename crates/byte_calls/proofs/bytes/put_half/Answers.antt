use mathlib.Core.Path.{ap, ◌∙◌}
use native.Mathlib.Omega.{arith}
use lib.ListN.{take}
use Rattle.byte_calls.proofs.Filling.{half_put}
use Rattle.byte_calls.proofs.bytes.put_half.Goals as goal

pub returns : goal.returns
returns c = half_put c.args.at c.args.x c.args.bytes.now _ (omega arith) (c.copy_from_slice.ensures.after ∙ ap (take 2) c.to_le_bytes.ensures)
