use Rattle.base.proofs.Loop.{iter_zero, iter_more, iter_done}
use native.Mathlib.Omega.{arith}
use Rattle.base.specs.Bytes.{put_words}
use Rattle.byte_calls.proofs.bytes.write_words.Goals as goal

pub loop-i-init : goal.loop-i-init
unfolding put_words
loop-i-init c = iter_zero _ _

pub loop-i-preserved : goal.loop-i-preserved
unfolding put_words
loop-i-preserved c = iter_more _ _ _ _ _ c.loop-i.invariant c.put_word.ensures

pub returns : goal.returns
unfolding put_words
returns c = iter_done _ _ _ _ _ c.loop-i.invariant (omega arith) (omega arith)
