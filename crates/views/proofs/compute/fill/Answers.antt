use Rattle.std.proofs.Common.{ℕ, arith, refl}
use Rattle.views.proofs.Filling.{filled_zero, filled_more, filled_done}
use Rattle.views.proofs.compute.fill.Goals as goal

pub loop-v-init : goal.loop-v-init
loop-v-init g c = λ f h. filled_zero _ _ _

pub loop-v-preserved : goal.loop-v-preserved
loop-v-preserved g c = λ f h.
    filled_more _ _ _ _ _ _ _ (c.loop-v.invariant f (λ v x l p. h v x (omega arith) p)) refl (h c.loop-v.v c.value.result (omega arith) c.value.ensures)

pub returns : goal.returns
returns g c = λ f h. filled_done _ _ _ _ _ _ (c.loop-v.invariant f (λ v x k p. h v x (omega arith) p)) (omega arith) (omega arith)
