use mathlib.Core.Path.{◌≡◌, refl, sym, ap, ap₂, ◌∙◌}
use Prim.Native.Nat.{ℕ, ◌≤◌, ◌<◌, ◌+◌, ◌-◌, ◌*◌, ◌/◌, ◌%◌}
use native.Mathlib.Omega.{arith}
use Rattle.base.specs.Bytes.{word_at, long_at, put_half, put_word, put_long, put_halves, put_words, put_longs}
use Rattle.byte_calls.specs.Stores.{put_reason, put_reasons, put_last, put_noted, put_cursor, put_list, put_log}
use Rattle.base.proofs.Loop.{pick_yes, pick_no}
use lib.ListN.{length, length-set, get_or, set}
use Rattle.byte_calls.proofs.Filling.{capped_min, cap_most, put_reason_idle, put_reason_length}
use Rattle.base.specs.Iter.{iter}
use Rattle.base.proofs.Loop.{iter_zero, iter_more, iter_done}
use Rattle.noting.specs.Words.{capped}
use Rattle.plan.specs.Words.{variables_of}
use Rattle.sweep.proofs.Next.{next_told, next_turn}
use borrow.Author.Rules.{rules}
use Rattle.byte_calls.proofs.store.store_reasons.Goals as goal

pub loop-p-init : goal.loop-p-init
loop-p-init c =
    let e = c.next_proposed-p.ensures in
    ((next_told e).most, next_turn _ _ _ (put_reason_idle _) _ _ _ _ (omega arith) e (iter_zero _ _), refl)

pub store_reason-requires : goal.store_reason-requires
store_reason-requires c = (omega (arith, c.loop-p.invariant.2), omega arith, omega (arith, cap_most _ _ _ (capped_min _ _ _ c.min-n.ensures)))

pub overflow_add-p : goal.overflow_add-p
overflow_add-p c = omega arith

pub loop-p-smaller : goal.loop-p-smaller
loop-p-smaller c = let t = next_told c.next_proposed-p-in-loop-p.ensures in let l = t.least (omega arith) in omega arith

pub loop-p-preserved : goal.loop-p-preserved
loop-p-preserved c =
    let e = c.next_proposed-p-in-loop-p.ensures in (
      (next_told e).most,
      next_turn _ _ _ (put_reason_idle _) _ _ _ _ (omega arith) e
          (iter_more _ _ _ _ _ c.loop-p.invariant.1 c.store_reason.ensures),
      ap (length {A = ℕ}) c.store_reason.ensures ∙ (put_reason_length _ _ _ ∙ c.loop-p.invariant.2),
    )

pub shape_of-state : goal.shape_of-state
shape_of-state c = c.loop-p.invariant.2

pub returns : goal.returns
unfolding put_reasons
returns c =
    let a = c.args in
    iter_done _ _ _ _ _ c.loop-p.invariant.1 (omega arith) (omega arith)
    ∙ ap (λ (k : ℕ). iter (put_reason a.proposals.now) k a.state.now)
    ((capped_min _ _ _ c.min-n.ensures) ∙ ap (λ (k : ℕ). capped (2 * k) 4352) c.num_variables.ensures)
