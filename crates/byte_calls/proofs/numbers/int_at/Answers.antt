use mathlib.Core.Path.{◌∙◌}
use native.Mathlib.Omega.{arith}
use Rattle.byte_calls.proofs.Numbering.{signed_is, int_is}
use Rattle.byte_calls.proofs.numbers.int_at.Goals as goal

pub returns : goal.returns
returns c = int_is c.args.bytes.now c.args.i _ _ (c.cast_signed.ensures ∙ signed_is _ (omega arith)) c.number_word.ensures
