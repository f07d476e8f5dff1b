use mathlib.Core.Path.{ap, ◌∙◌}
use native.Mathlib.Omega.{arith}
use lib.ListN.{length}
use Rattle.base.proofs.Loop.{iter_zero, iter_more, iter_done}
use Rattle.sweep.specs.Sweep.{Handed, handed_on}
use Rattle.sweep.proofs.Loops.{all_table, all_list}
use Rattle.sweep.proofs.Next.{next_told, next_turn, handed_idle}
use Rattle.sweep.proofs.hand_on.Goals as goal

pub overflow_cast-n : goal.overflow_cast-n
overflow_cast-n c = omega arith

pub overflow_mul-n : goal.overflow_mul-n
overflow_mul-n c = omega arith

pub loop-p-init : goal.loop-p-init
loop-p-init c =
    let e = c.next_proposed-p.ensures in
    ((next_told e).most, (omega arith, next_turn _ _ _ (handed_idle _ _) _ _ _ _ (omega arith) e (iter_zero _ _)))

pub overflow_add-p : goal.overflow_add-p
overflow_add-p c = omega arith

pub loop-p-smaller : goal.loop-p-smaller
loop-p-smaller c = let t = next_told c.next_proposed-p-in-loop-p.ensures in let l = t.least (omega arith) in omega arith

pub loop-p-preserved : goal.loop-p-preserved
loop-p-preserved c =
    let e = c.next_proposed-p-in-loop-p.ensures in (
      (next_told e).most,
      (
        c.loop-p.invariant.1.0,
        next_turn _ _ _ (handed_idle _ _) _ _ _ _ (omega arith) e
            (iter_more _ _ _ _ _ c.loop-p.invariant.1.1 c.hand_on_place-past.ensures),
      ),
    )

pub shape_of-table : goal.shape_of-table
shape_of-table c = ap (λ (x : Handed). length x.table) c.loop-p.invariant.1.1 ∙ all_table _ _ c.loop-p.p _

pub shape_of-list : goal.shape_of-list
shape_of-list c = ap (λ (x : Handed). length x.out.text) c.loop-p.invariant.1.1 ∙ all_list _ _ c.loop-p.p _

pub returns : goal.returns
unfolding handed_on
returns c = iter_done _ _ _ _ _ c.loop-p.invariant.1.1 (omega arith) (omega arith)
