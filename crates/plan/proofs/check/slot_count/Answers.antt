use Rattle.std.proofs.Common.{ap, ◌∙◌, arith}
use Rattle.std.proofs.Math.Numerals.{sub-one}
use Rattle.base.specs.Iter.{iter}
use Rattle.base.proofs.Loop.{iter_zero, iter_more, iter_done}
use Rattle.plan.specs.Check.{slot_count}
use Rattle.plan.proofs.check.slot_count.Goals as goal

pub loop-v-init : goal.loop-v-init
loop-v-init c = (omega (arith, c.requires.edges), iter_zero _ _)

pub loop-v-preserved : goal.loop-v-preserved
loop-v-preserved c =
    let l = c.loop-v in
    let few = c.requires.domains l.v (omega arith) in
    (omega arith, iter_more _ _ _ _ _ l.invariant.1 (simp (← sub-one) (cc)))

pub returns : goal.returns
unfolding slot_count
returns c =
    let l = c.loop-v in
    iter_done _ _ _ _ _ (l.invariant.1 ∙ ap (iter _ l.v) c.num_edges-n.ensures) (omega arith) (omega arith)
