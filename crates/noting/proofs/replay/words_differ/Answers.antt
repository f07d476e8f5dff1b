use Rattle.std.proofs.Common.{Bool, ◌||◌, sym, ap, add-one}
use Rattle.base.specs.Lists.{some}
use Rattle.base.proofs.Some.{some_zero}
use Rattle.noting.specs.Following.{word_differs}
use Rattle.noting.proofs.replay.words_differ.Goals as goal

pub loop-i-init : goal.loop-i-init
loop-i-init c = sym (some_zero _)

pub loop-i-preserved : goal.loop-i-preserved
unfolding some word_differs
loop-i-preserved c = rw add-one (ap (λ (b : Bool). b || word_differs c.args.a.now c.args.b.now c.args.from c.loop-i.i) c.loop-i.invariant)
