use mathlib.Core.Path.{◌≡◌, ap, ◌∙◌}
use mathlib.Core.Bool.{true}
use Prim.Native.Nat.{◌-◌, ◌*◌, ◌<◌, ◌≤◌}
use native.Mathlib.Omega.{arith}
use lib.ListN.{length}
use Rattle.base.specs.Iter.{iter}
use Rattle.base.proofs.Loop.{iter_zero, iter_more, iter_done}
use Rattle.plan.specs.Words.{words_of, variables_of}
use Rattle.notifications.specs.Notifications.{merged_at, merged}
use Rattle.sweep.specs.Sweep.{proposed_at}
use Rattle.sweep.proofs.Next.{next_told, next_turn, proposed_low}
use Rattle.notifications.proofs.Cases.{merged_length, merged_idle}
use borrow.Author.Rules.{rules}
use Rattle.notifications.proofs.merge.merge.Goals as goal

pub overflow_cast-n : goal.overflow_cast-n
overflow_cast-n c = omega arith

pub overflow_mul-n : goal.overflow_mul-n
overflow_mul-n c = omega arith

pub loop-p-init : goal.loop-p-init
loop-p-init c =
    let e = c.next_proposed-p.ensures in
    ((next_told e).most, (omega arith, next_turn _ _ _ (merged_idle _) _ _ _ _ (omega arith) e (iter_zero _ _)), (next_told e).on)

pub merge_at-requires : goal.merge_at-requires
merge_at-requires c =
    let on = c.loop-p.invariant.2 (omega arith) in
    (proposed_low _ _ on, on)

pub overflow_add-p : goal.overflow_add-p
overflow_add-p c = omega arith

pub loop-p-smaller : goal.loop-p-smaller
loop-p-smaller c = let t = next_told c.next_proposed-p-in-loop-p.ensures in let l = t.least (omega arith) in omega arith

pub loop-p-preserved : goal.loop-p-preserved
loop-p-preserved c =
    let e = c.next_proposed-p-in-loop-p.ensures in (
      (next_told e).most,
      (
        c.loop-p.invariant.1.0,
        next_turn _ _ _ (merged_idle _) _ _ _ _ (omega arith) e
            (iter_more _ _ _ _ _ c.loop-p.invariant.1.1 c.merge_at.ensures),
      ),
      (next_told e).on,
    )

pub shape_of-words : goal.shape_of-words
shape_of-words c = ap length c.loop-p.invariant.1.1 ∙ merged_length _ _ c.loop-p.p

pub returns : goal.returns
unfolding merged
returns c = iter_done _ _ _ _ _ c.loop-p.invariant.1.1 (omega arith) (omega arith)
