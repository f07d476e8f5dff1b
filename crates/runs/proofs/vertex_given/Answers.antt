use mathlib.Core.Path.{sym, ap, ◌∙◌}
use lib.IntN.{pos}
use mir.Facts.{to_z-of_z}
use Rattle.base.specs.Range.{in_range, to_nat}
use Rattle.base.proofs.Loop.{pick_yes, pick_no}
use Rattle.runs.specs.Walk.{vertex_given}
use Rattle.runs.proofs.vertex_given.Goals as goal

pub returns-then-in_range : goal.returns-then-in_range
unfolding vertex_given
returns-then-in_range c =
    let f = c.ranges.v in
    c.to_nat.ensures ∙ ap to_nat (to_z-of_z f)
    ∙ sym (pick_yes _ _ (sym (c.in_range.ensures ∙ ap (in_range (pos 63)) (to_z-of_z f)) ∙ c.if-in_range.true))

pub returns : goal.returns
unfolding vertex_given
returns c = sym (pick_no _ _ (sym (c.in_range.ensures ∙ ap (in_range (pos 63)) (to_z-of_z c.ranges.v)) ∙ c.if-in_range.false))
