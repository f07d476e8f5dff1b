use mathlib.Core.Path.{sym, ap, ◌∙◌}
use native.Mathlib.Omega.{arith}
use lib.IntN.{pos}
use mir.Facts.{to_z-of_z}
use Rattle.base.specs.Range.{in_range, to_nat}
use Rattle.base.proofs.Range.{in_range_nat}
use Rattle.refusals.proofs.lit_number.Goals as goal

pub overflow_cast-result : goal.overflow_cast-result
overflow_cast-result c = omega (arith, (c.to_nat.ensures ∙ ap to_nat (to_z-of_z (c.ranges.lit))), in_range_nat 8191 (c.args.lit) (sym (c.is_literal.ensures ∙ ap (in_range (pos 8191)) (to_z-of_z (c.ranges.lit))) ∙ c.if-is_literal.true))
