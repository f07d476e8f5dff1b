use mathlib.Core.Path.{ap, ◌∙◌}
use native.Mathlib.Omega.{arith}
use lib.ListN.{set}
use Rattle.base.proofs.Loop.{iter_zero, iter_more}
use Rattle.sweep.proofs.Next.{next_told, next_turn}
use Rattle.recorded.proofs.Recording.{capped_min, recorded_idle, recorded_done}
use Rattle.plan.specs.Words.{words_of}
use Rattle.recorded.proofs.record.Goals as goal

pub overflow_cast-num_variables : goal.overflow_cast-num_variables
overflow_cast-num_variables c = omega arith

pub overflow_mul-num_variables : goal.overflow_mul-num_variables
overflow_mul-num_variables c = omega arith

pub loop-p-init : goal.loop-p-init
loop-p-init c =
    let e = c.next_proposed-p.ensures in
    ((next_told e).most, next_turn _ _ _ (recorded_idle _) _ _ _ _ (omega arith) e (iter_zero _ _))

pub offset_bounds-t-p : goal.offset_bounds-t-p
offset_bounds-t-p c = omega (arith, c.min-n.ensures)

pub bounds-t-p : goal.bounds-t-p
bounds-t-p c = omega (arith, c.min-n.ensures)

pub newest-requires : goal.newest-requires
newest-requires c = omega (arith, c.min-n.ensures)

pub offset_bounds-t-p-in-loop-p : goal.offset_bounds-t-p-in-loop-p
offset_bounds-t-p-in-loop-p c = omega (arith, c.min-n.ensures)

pub bounds-t-p-in-loop-p : goal.bounds-t-p-in-loop-p
bounds-t-p-in-loop-p c = omega (arith, c.min-n.ensures)

pub overflow_add-p : goal.overflow_add-p
overflow_add-p c = omega arith

pub loop-p-smaller : goal.loop-p-smaller
loop-p-smaller c = let t = next_told c.next_proposed-p-in-loop-p.ensures in let l = t.least (omega arith) in omega arith

pub loop-p-preserved : goal.loop-p-preserved
loop-p-preserved c =
    let e = c.next_proposed-p-in-loop-p.ensures in
    let l = c.loop-p in (
      (next_told e).most,
      next_turn _ _ _ (recorded_idle _) _ _ _ _ (omega arith) e
          (iter_more _ _ _ _ _ l.invariant.1 (ap (set l.t.at l.p) c.newest.ensures)),
    )

pub returns : goal.returns
returns c = recorded_done (words_of c.args.plan.now) _ _ _ _ _ _ c.num_variables.ensures (c.min-n.ensures ∙ capped_min _) c.loop-p.invariant.1 (omega arith) (omega arith)
