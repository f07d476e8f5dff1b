use Rattle.std.proofs.Common.{◌≡◌, ℕ, ◌+◌, ◌-◌, ◌∙◌, min, length, ap, arith, set}
use Rattle.base.specs.Lists.{filled}
use Rattle.base.proofs.Loop.{iter_zero, iter_more, iter_done}
use Rattle.base.proofs.Filled.{filled_room}
use Rattle.builder.proofs.fill.fill.Goals as goal

pub loop-i-init : goal.loop-i-init
unfolding filled
loop-i-init g c = λ f h. iter_zero _ _

pub loop-i-preserved : goal.loop-i-preserved
unfolding filled
loop-i-preserved g c = λ f h.
    iter_more _ _ _ _ _ (c.loop-i.invariant f (λ i x l p. h i x (omega arith) p)) (ap (set c.loop-i.words (c.args.from + c.loop-i.i)) (h c.loop-i.i c.value.result (omega arith) c.value.ensures))

pub returns : goal.returns
unfolding filled
returns g c = λ f h.
    let a = c.args in
    let l = c.loop-i in
    let room : c.min-room.result ≡ min (length a.words.now - a.from) a.n = c.min-room.ensures ∙ ap (λ (m : ℕ). min m a.n) c.saturating_sub.ensures in
    iter_done _ _ _ _ _ (l.invariant f (λ i x k p. h i x (omega arith) p)) (omega arith) (omega arith)
    ∙ ap (λ (k : ℕ). filled a.from k f a.words.now) room ∙ filled_room a.from f a.words.now a.n
