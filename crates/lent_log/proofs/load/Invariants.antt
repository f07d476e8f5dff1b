use Rattle.std.proofs.Common.{◌≡◌, get_or, set}
use Rattle.base.specs.Iter.{iter}
use Rattle.undo_log.specs.Log.{word_of}
use Rattle.lent_log.specs.Records.{no_record}
use Rattle.lent_log.proofs.load.Given as goal

abbrev pub invariant-loop-i : goal.invariant-loop-i
invariant-loop-i l = l.words ≡ iter (λ i ws. set ws i (word_of (get_or l.log i no_record))) l.i l.fn.words
