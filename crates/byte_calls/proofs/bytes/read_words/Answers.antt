use mathlib.Core.Path.{refl}
use Rattle.base.proofs.Loop.{iter_zero, iter_done}
use native.Mathlib.Omega.{arith}
use Rattle.base.specs.Lists.{filled}
use Rattle.byte_calls.proofs.Filling.{filled_more}
use Rattle.byte_calls.proofs.bytes.read_words.Goals as goal

pub loop-i-init : goal.loop-i-init
unfolding filled
loop-i-init c = iter_zero _ _

pub loop-i-preserved : goal.loop-i-preserved
loop-i-preserved c = filled_more _ _ _ _ _ _ _ c.loop-i.invariant refl c.word_at.ensures

pub returns : goal.returns
unfolding filled
returns c = iter_done _ _ _ _ _ c.loop-i.invariant (omega arith) (omega arith)
