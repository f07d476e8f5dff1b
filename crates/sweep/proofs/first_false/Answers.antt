use mathlib.Core.Path.{sym, ◌∙◌}
use native.Mathlib.Omega.{arith}
use Rattle.sweep.specs.Sweep.{first_false_at}
use Rattle.sweep.proofs.Loops.{lowest_is, lowest_none}
use Rattle.sweep.proofs.Next.{next_told, false_start, false_more}
use Rattle.sweep.proofs.first_false.Goals as goal

pub overflow_cast-n : goal.overflow_cast-n
overflow_cast-n c = omega arith

pub overflow_mul-n : goal.overflow_mul-n
overflow_mul-n c = omega arith

pub loop-p-init : goal.loop-p-init
loop-p-init c = let t = next_told c.next_proposed-p.ensures in (t.most, (omega arith, false_start _ _ _ t))

pub returns-then-false_at : goal.returns-then-false_at
unfolding first_false_at
returns-then-false_at c = lowest_is _ _ _ (omega arith) c.loop-p.invariant.1.1 (sym c.false_at.ensures ∙ c.if-false_at.true)

pub overflow_add-p : goal.overflow_add-p
overflow_add-p c = omega arith

pub loop-p-smaller : goal.loop-p-smaller
loop-p-smaller c = let t = next_told c.next_proposed-p-in-loop-p.ensures in let l = t.least (omega arith) in omega arith

pub loop-p-preserved : goal.loop-p-preserved
loop-p-preserved c =
    let t = next_told c.next_proposed-p-in-loop-p.ensures in
    let e = sym c.false_at.ensures ∙ c.if-false_at.false in
    (t.most, (c.loop-p.invariant.1.0, false_more _ _ _ c.loop-p.invariant.1.1 e t))

pub returns : goal.returns
unfolding first_false_at
returns c = c.loop-p.invariant.1.0 ∙ lowest_none _ _ (λ q h. c.loop-p.invariant.1.1 q (omega arith))
