use Rattle.std.proofs.Common.{◌∙◌, ℕ, ap, refl, arith, length}
use Rattle.std.proofs.lemmas.List.{length-replicate}
use Rattle.base.proofs.Loop.{iter_zero, iter_done}
use Rattle.base.specs.Bytes.{put_words}
use Rattle.plan.proofs.Reading.{put_more, put_back, small_more}
use Rattle.plan.proofs.bytes.bytes_of.Goals as goal

pub loop-i-init : goal.loop-i-init
unfolding put_words
loop-i-init c = (iter_zero _ _, λ j l. omega arith)

pub loop-i-preserved : goal.loop-i-preserved
loop-i-preserved c =
    let l = c.loop-i in
    (put_more _ _ _ _ _ _ l.invariant.0 refl c.put_word.ensures.0, small_more c.args.words.now _ _ l.invariant.1 refl c.put_word.ensures.1)

pub returns : goal.returns
unfolding put_words
returns c =
    let l = c.loop-i in
    put_back _ _ _ (ap length c.no_bytes-bytes.ensures ∙ length-replicate {A = ℕ} 60964 0)
    (λ j k. l.invariant.1 j (omega arith)) (iter_done _ _ _ _ _ l.invariant.0 (omega arith) (omega arith))
