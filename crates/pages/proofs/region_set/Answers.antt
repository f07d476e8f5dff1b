use Rattle.std.proofs.Common.{arith, ◌∙◌, ◌-◌, get_or}
use lib.Dec.{eqb}
use Rattle.pages.specs.Sets.{set_of}
use Rattle.pages.proofs.Sets.{bit_of, one_le, down_start, down_small, down_next, down_done}
use Rattle.pages.proofs.region_set.Goals as goal

pub loop-v-init : goal.loop-v-init
loop-v-init c = down_start _ _

pub overflow_mul-set : goal.overflow_mul-set
overflow_mul-set c =
    let l = c.loop-v in
    omega (arith, down_small _ c.args.n l.set l.v (omega arith) c.loop-v-test.true l.invariant)

pub overflow_add-set : goal.overflow_add-set
overflow_add-set c =
    let l = c.loop-v in
    let e = c.from.ensures ∙ bit_of _ in
    omega (arith, e, one_le (eqb (get_or c.args.labels.now (l.v - 1) 0) c.args.r), down_small _ c.args.n l.set l.v (omega arith) c.loop-v-test.true l.invariant)

pub loop-v-preserved : goal.loop-v-preserved
loop-v-preserved c =
    let l = c.loop-v in
    down_next _ c.args.n l.set l.v c.from.result c.loop-v-test.true (c.from.ensures ∙ bit_of _) l.invariant

pub returns : goal.returns
unfolding set_of
returns c =
    let l = c.loop-v in
    down_done _ c.args.n l.set l.v (omega arith) l.invariant
