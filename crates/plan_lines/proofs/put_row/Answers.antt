use Prim.Native.Nat.{◌+◌}
use mathlib.Core.Path.{ap, ◌∙◌}
use mir.Syntax.{w32}
use mir.Facts.{to_z-of_z}
use native.Mathlib.Omega.{arith}
use lib.ListN.{set}
use Rattle.base.proofs.Loop.{iter_zero, iter_more, iter_done}
use Rattle.plan_lines.specs.Lines.{row_put}
use Rattle.plan_lines.proofs.put_row.Goals as goal

pub loop-j-init : goal.loop-j-init
loop-j-init c = iter_zero _ _

pub loop-j-preserved : goal.loop-j-preserved
loop-j-preserved c = iter_more _ _ _ _ _ c.loop-j.invariant (ap (set c.loop-j.vertices (c.args.at + c.loop-j.j)) (to_z-of_z {w = w32} (record { sfits = c.number_at.type_inv }) ∙ c.number_at.ensures))

pub returns : goal.returns
unfolding row_put
returns c = iter_done _ _ _ _ _ c.loop-j.invariant (omega arith) (omega arith)
