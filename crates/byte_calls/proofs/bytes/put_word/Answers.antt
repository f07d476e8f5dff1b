use mathlib.Core.Path.{◌∙◌}
use native.Mathlib.Omega.{arith}
use Rattle.byte_calls.proofs.Filling.{word_put}
use Rattle.byte_calls.proofs.bytes.put_word.Goals as goal

pub returns : goal.returns
returns c = word_put c.args.at c.args.x c.args.bytes.now _ (omega arith) (c.copy_from_slice.ensures.after ∙ c.to_le_bytes.ensures)
