use mathlib.Core.Path.{refl}
use native.Mathlib.Omega.{arith}
use Rattle.base.proofs.Loop.{iter_zero, iter_more, iter_done}
use Rattle.graph_division.specs.Initialize.{noted_up_to}
use Rattle.lent.proofs.initialize.note_up_to.Goals as goal

pub loop-p-init : goal.loop-p-init
loop-p-init c = iter_zero _ _

pub loop-p-preserved : goal.loop-p-preserved
loop-p-preserved c = iter_more _ _ _ _ _ c.loop-p.invariant c.note_at-c.ensures

pub returns : goal.returns
unfolding noted_up_to
returns c = iter_done _ _ _ _ _ c.loop-p.invariant (omega arith) (omega arith)
