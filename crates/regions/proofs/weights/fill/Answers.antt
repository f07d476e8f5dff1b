use Rattle.std.proofs.Common.{arith, refl}
use Rattle.base.proofs.Loop.{iter_zero, iter_more}
use Rattle.graph.proofs.Lists.{mapped_fill}
use Rattle.regions.proofs.Buckets.{pour_fits, pour_as, poured_done}
use Rattle.regions.proofs.weights.fill.Goals as goal

pub loop-v-init : goal.loop-v-init
loop-v-init c = iter_zero _ _

pub loop-v-preserved : goal.loop-v-preserved
loop-v-preserved c = iter_more _ _ _ _ _ c.loop-v.invariant (pour_as _ _ _ _ _ c.from.ensures)

pub overflow_add-sums-in-loop-v : goal.overflow_add-sums-in-loop-v
overflow_add-sums-in-loop-v c =
    let z = mapped_fill 0 c.args.num_vertices _ _ (omega arith) c.fill.ensures.len (λ k h. c.fill.ensures.clones k 0 h refl) in
    omega (arith, pour_fits _ _ _ _ _ _ _ _ c.requires.0 c.requires.3 c.requires.2 z c.loop-v.invariant c.loop-v-test.true c.from.ensures)

pub returns : goal.returns
returns c =
    let z = mapped_fill 0 c.args.num_vertices _ _ (omega arith) c.fill.ensures.len (λ k h. c.fill.ensures.clones k 0 h refl) in
    poured_done _ _ _ _ _ _ _ z c.loop-v.invariant (omega arith) (omega arith)
