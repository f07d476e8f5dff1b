use Rattle.std.proofs.Common.{arith}
use Rattle.noting.proofs.Filling.{filled_none, filled_both}
use Rattle.noting.specs.Words.{first_size, last_size}
use Rattle.noting.proofs.fill_sizes.Goals as goal

pub loop-i-init : goal.loop-i-init
loop-i-init c = filled_none (first_size _) (last_size _) 128 192 _

pub loop-i-preserved : goal.loop-i-preserved
loop-i-preserved c =
    let l = c.loop-i in
    filled_both (first_size _) (last_size _) 128 192 l.i _ l.noted _ _ (omega arith) l.invariant c.first_size-x.ensures c.last_size-y.ensures
