use Rattle.std.proofs.Common.{Bool, ◌||◌, sym, ap, add-one}
use Rattle.base.specs.Lists.{some}
use Rattle.base.proofs.Some.{some_zero}
use Rattle.noting.specs.Buffers.{code_bad}
use Rattle.noting.proofs.buffers.some_code_bad.Goals as goal

pub loop-code-init : goal.loop-code-init
loop-code-init c = sym (some_zero _)

pub loop-code-preserved : goal.loop-code-preserved
unfolding some code_bad
loop-code-preserved c = rw add-one (ap (λ (b : Bool). b || code_bad c.args.table.now c.loop-code.code-index) c.loop-code.invariant)
