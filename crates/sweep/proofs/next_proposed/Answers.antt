use mathlib.Core.Path.{◌∙◌}
use native.Mathlib.Omega.{arith}
use Rattle.sweep.proofs.Next.{none_yet, none_join, marks_none, next_marked, next_past}
use Rattle.sweep.proofs.next_proposed.Goals as goal

pub loop-p-init : goal.loop-p-init
loop-p-init c = (omega arith, none_yet _ _ _ (omega arith))

pub offset_bounds-proposals-p : goal.offset_bounds-proposals-p
offset_bounds-proposals-p c = omega arith

pub bounds-proposals-p : goal.bounds-proposals-p
bounds-proposals-p c = omega arith

pub next_bit-bit-requires : goal.next_bit-bit-requires
next_bit-bit-requires c = omega arith

pub overflow_mul-p : goal.overflow_mul-p
overflow_mul-p c = omega arith

pub overflow_add-p : goal.overflow_add-p
overflow_add-p c = omega arith

pub returns-then-bit-lt64 : goal.returns-then-bit-lt64
returns-then-bit-lt64 c =
    c.min-then-bit-lt64.ensures
    ∙ next_marked _ _ _ _ _ (omega arith) (omega arith) (omega arith) c.loop-p.invariant.1 c.next_bit-bit.ensures (omega arith)

pub overflow_sub-p : goal.overflow_sub-p
overflow_sub-p c = omega arith

pub overflow_add-p-in-loop-p : goal.overflow_add-p-in-loop-p
overflow_add-p-in-loop-p c = omega arith

pub loop-p-smaller : goal.loop-p-smaller
loop-p-smaller c = omega arith

pub loop-p-preserved : goal.loop-p-preserved
loop-p-preserved c = (omega arith, none_join c.loop-p.invariant.1 (marks_none _ _ _ (omega (arith, c.next_bit-bit.ensures)) (omega arith)))

pub returns : goal.returns
returns c = next_past _ _ _ _ (omega arith) c.loop-p.invariant.1
