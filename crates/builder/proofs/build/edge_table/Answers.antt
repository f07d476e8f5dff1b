use Rattle.std.proofs.Common.{arith, ℕ, ℤ, List, [], ◌∷◌, ◌≡◌, ◌∙◌, ◌%◌, ap, ap₂, set}
use Rattle.base.specs.Range.{to_nat}
use Rattle.base.proofs.Loop.{iter_zero, iter_more, iter_done}
use Rattle.base.proofs.Range.{reads_back}
use Rattle.builder.specs.Build.{edge_step, edge_table}
use Rattle.builder.specs.Input.{left_at, right_at}
use Rattle.builder.proofs.build.edge_table.Goals as goal

step_is : (es : List ℤ) (g : ℕ) (t : List (List ℕ)) (u v : ℕ) → u ≡ to_nat (left_at es g) → v ≡ to_nat (right_at es g) → set t g (u % 256 ∷ v % 256 ∷ []) ≡ edge_step es g t
unfolding edge_step
step_is es g t u v e f = ap₂ (λ (x y : ℕ). set t g (x % 256 ∷ y % 256 ∷ [])) e f

pub loop-g-init : goal.loop-g-init
loop-g-init c = iter_zero _ _

pub loop-g-preserved : goal.loop-g-preserved
loop-g-preserved c =
    let l = c.loop-g in
    iter_more _ _ _ _ _ l.invariant (step_is c.args.edges.now l.g l.table _ _
    (c.to_nat.ensures ∙ ap to_nat (reads_back _ c.left.type_inv ∙ c.left.ensures))
    (c.to_nat-in-loop-g.ensures ∙ ap to_nat (reads_back _ c.right.type_inv ∙ c.right.ensures)))

pub returns : goal.returns
unfolding edge_table
returns c = iter_done _ _ _ _ _ c.loop-g.invariant (omega arith) (omega arith)
