use Rattle.std.proofs.Common.{arith, refl}
use Rattle.base.proofs.Loop.{iter_zero, iter_more}
use Rattle.graph.proofs.Lists.{mapped_fill}
use Rattle.regions.proofs.Spots.{claimed_done}
use Rattle.regions.proofs.limits.claim_all.Goals as goal

pub loop-v-init : goal.loop-v-init
loop-v-init c = iter_zero _ _

pub claim-requires : goal.claim-requires
claim-requires c = let p = c.requires in (omega arith, omega arith, omega (arith, p.2 c.loop-v.v c.loop-v-test.true))

pub loop-v-preserved : goal.loop-v-preserved
loop-v-preserved c = iter_more _ _ _ _ _ c.loop-v.invariant c.claim.ensures

pub returns : goal.returns
returns c =
    let b = mapped_fill c.loosest.result c.args.num_vertices _ _ (omega arith) c.fill.ensures.len (λ k h. c.fill.ensures.clones k 0 h refl) in
    let h = mapped_fill 0 c.args.num_vertices _ _ (omega arith) c.fill-2.ensures.len (λ k h. c.fill-2.ensures.clones k 0 h refl) in
    claimed_done _ _ _ _ _ _ _ _ _ _ c.loosest.ensures b h c.loop-v.invariant (omega arith) (omega arith)
