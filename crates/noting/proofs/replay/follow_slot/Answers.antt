use native.Mathlib.Omega.{arith}
use Rattle.noting.proofs.Follow.{slot_idle, slot_past}
use Rattle.plan.specs.Words.{words_of}
use Rattle.noting.proofs.replay.follow_slot.Goals as goal

pub returns : goal.returns
returns c =
    let a = c.args in
    slot_idle (words_of a.plan.now) a.log.now a.noted.now a.used a.lit a.s a.at (slot_past (words_of a.plan.now) a.log.now a.noted.now a.used a.lit a.s a.at (omega arith) (omega arith))
