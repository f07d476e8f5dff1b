use mathlib.Core.Path.{ap, ◌∙◌}
use lib.IntN.{pos}
use native.Mathlib.Omega.{arith}
use mir.Facts.{to_z_pos}
use mir.Syntax.{w32}
use Rattle.byte_calls.specs.Codes.{fitted}
use Rattle.byte_calls.proofs.Filling.{capped_min}
use Rattle.byte_calls.proofs.codes.count_code.Goals as goal

pub returns : goal.returns
unfolding fitted
returns c = to_z_pos w32 {n = c.min.result} (omega arith) ∙ ap pos (capped_min _ _ _ c.min.ensures)
