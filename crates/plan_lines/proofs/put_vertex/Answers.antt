use mathlib.Core.Path.{◌≡◌, refl, sym, ap, ap₂, ◌∙◌}
use native.Mathlib.Omega.{arith}
use borrow.Author.Tests.{lt-ltb, le-ltb, le-leb, lt-leb}
use Rattle.base.proofs.Loop.{pick_yes, pick_no}
use mathlib.Core.List.{List}
use Prim.Native.Nat.{ℕ, ◌+◌, ◌*◌, ◌-◌, ◌≤◌}
use lib.IntN.{ℤ}
use mir.Facts.{to_z-of_z}
use Rattle.plan_lines.specs.Lines.{vertex_put, lits_put, numbers_put, head_put}
use borrow.Author.Rules.{rules}
use Rattle.plan_lines.proofs.put_vertex.Goals as goal

pub returns-then-v-ge64 : goal.returns-then-v-ge64
unfolding vertex_put
returns-then-v-ge64 c = sym (pick_no _ _ (le-ltb _ _ c.if-v-ge64.true))

pub overflow_mul-v : goal.overflow_mul-v
overflow_mul-v c = omega arith

pub overflow_add-v : goal.overflow_add-v
overflow_add-v c = omega arith

pub returns : goal.returns
unfolding vertex_put
returns c =
    let a = c.args in
    c.put_lits.ensures
    ∙ ap (lits_put a.line.now a.sizes a.v) (c.put_numbers.ensures ∙ ap (numbers_put a.line.now 2 (67 * a.v + 3)) (c.put_head.ensures ∙ ap (λ (w : ℤ). head_put w a.sizes a.count a.v a.vertices.now) (to_z-of_z c.ranges.weight)))
    ∙ sym (pick_yes _ _ (lt-ltb _ _ c.if-v-ge64.false))
