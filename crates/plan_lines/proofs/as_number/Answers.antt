use mathlib.Core.Path.{◌∙◌}
use native.Mathlib.Omega.{arith}
use mir.Syntax.{w32}
use mir.Facts.{to_z_pos}
use Rattle.plan_lines.proofs.Putting.{as_number_min}
use Rattle.plan_lines.proofs.as_number.Goals as goal

pub returns : goal.returns
returns c = to_z_pos w32 {n = c.min.result} (omega arith) ∙ as_number_min _ _ c.min.ensures
