use mathlib.Core.Path.{refl}
use native.Mathlib.Omega.{arith}
use Rattle.base.specs.Bytes.{put_word}
use Rattle.plan.proofs.bytes.put_word.Goals as goal

pub returns : goal.returns
unfolding put_word
returns c = (refl, omega arith)
