use mir.Facts.{to_z-of_z}
use Rattle.plan_lines.proofs.Putting.{edge_put_lem}
use mathlib.Core.Path.{◌≡◌, refl, sym, ap, ap₂, ◌∙◌}
use native.Mathlib.Omega.{arith}
use borrow.Author.Tests.{lt-ltb, le-ltb, le-leb, lt-leb}
use Rattle.base.proofs.Loop.{pick_yes, pick_no}
use Rattle.plan_lines.specs.Lines.{edge_put}
use borrow.Author.Rules.{rules}
use Rattle.plan_lines.proofs.put_edge.Goals as goal

pub returns-then-g-ge128 : goal.returns-then-g-ge128
unfolding edge_put
returns-then-g-ge128 c = sym (pick_no _ _ (le-ltb _ _ c.if-g-ge128.true))

pub returns : goal.returns
returns c = edge_put_lem _ _ _ _ _ _ _ _ c.if-g-ge128.false (to_z-of_z (c.ranges.u)) (to_z-of_z (c.ranges.v)) (to_z-of_z (c.ranges.lit))
