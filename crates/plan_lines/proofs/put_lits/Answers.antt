use mathlib.Core.Path.{◌≡◌, refl, sym, ap, ap₂, ◌∙◌}
use native.Mathlib.Omega.{arith}
use borrow.Author.Tests.{lt-ltb, le-ltb, le-leb, lt-leb}
use Rattle.base.proofs.Loop.{pick_yes, pick_no}
use Rattle.plan_lines.specs.Lines.{lits_put}
use borrow.Author.Rules.{rules}
use Rattle.plan_lines.proofs.put_lits.Goals as goal

pub returns-else-sizes-le32 : goal.returns-else-sizes-le32
unfolding lits_put
returns-else-sizes-le32 c = sym (pick_no _ _ (lt-leb _ _ c.if-sizes-le32.false))

pub overflow_add-sizes : goal.overflow_add-sizes
overflow_add-sizes c = omega arith

pub overflow_mul-v : goal.overflow_mul-v
overflow_mul-v c = omega arith

pub overflow_add-v : goal.overflow_add-v
overflow_add-v c = omega arith

pub returns-then-sizes-le32 : goal.returns-then-sizes-le32
unfolding lits_put
returns-then-sizes-le32 c = c.put_numbers.ensures ∙ sym (pick_yes _ _ (le-leb _ _ c.if-sizes-le32.true))
