use Rattle.std.proofs.lemmas.Bool.{not-true, not-false}
use mathlib.Core.Path.{ap, ◌∙◌}
use mathlib.Core.Bool.{true}
use Prim.Native.Nat.{ℕ, ◌+◌}
use native.Mathlib.Omega.{arith}
use Rattle.base.proofs.Loop.{iter_zero, iter_more, iter_done}
use Rattle.plan.specs.Words.{words_of}
use Rattle.noting.specs.Replay.{followed, place, follow_slot}
use Rattle.noting.proofs.Follow.{follow_off, follow_on, follow_all, iter_rest}
use Rattle.noting.proofs.replay.follow_at.Goals as goal

pub loop-i-init : goal.loop-i-init
loop-i-init c = iter_zero _ _

pub loop-i-preserved : goal.loop-i-preserved
loop-i-preserved c =
    let f = c.follow_slot-p in
    (follow_on _ f.result (not-false _ c.if-not-p.false) ∙ iter_more _ _ _ _ _ c.loop-i.invariant (f.ensures ∙ ap (λ (s : ℕ). follow_slot (words_of c.args.plan.now) c.args.log.now c.args.used c.args.lit s (followed c.loop-i.noted (place true c.loop-i.at))) c.occurrence_at-s.ensures))

pub returns-then-not-p : goal.returns-then-not-p
returns-then-not-p c =
    let a = c.args in
    let l = c.loop-i in
    let f = c.follow_slot-p in
    iter_rest _ _ _ (l.i + 1) _ (iter_more _ _ _ _ _ l.invariant (f.ensures ∙ ap (λ (s : ℕ). follow_slot (words_of c.args.plan.now) c.args.log.now c.args.used c.args.lit s (followed c.loop-i.noted (place true c.loop-i.at))) c.occurrence_at-s.ensures)) (omega arith) (λ j. follow_off (words_of a.plan.now) a.log.now _ a.used a.lit _ f.result (not-true _ c.if-not-p.true))
    ∙ follow_all (words_of a.plan.now) a.log.now a.used a.lit a.k _ _ _ c.start_at-from.ensures c.num_occurrences-n.ensures.0

pub returns : goal.returns
returns c =
    let a = c.args in
    iter_done _ _ _ _ _ c.loop-i.invariant (omega arith) (omega arith)
    ∙ follow_all (words_of a.plan.now) a.log.now a.used a.lit a.k _ _ _ c.start_at-from.ensures c.num_occurrences-n.ensures.0
