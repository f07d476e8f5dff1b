use Rattle.std.proofs.lemmas.Bool.{not-true, not-false}
use mathlib.Core.Path.{refl, ap, ◌∙◌}
use mathlib.Core.Bool.{true}
use Prim.Native.Nat.{ℕ, ◌+◌}
use native.Mathlib.Omega.{arith}
use lib.ListN.{length}
use Rattle.base.proofs.Loop.{iter_zero, iter_more}
use Rattle.noting.specs.Replay.{place}
use Rattle.noting.specs.Following.{marks_of}
use Rattle.noting.proofs.Back.{standing_none}
use Rattle.noting.proofs.Follow.{level_on}
use Rattle.noting.proofs.Passed.{level_step, replay_other, replay_through}
use Rattle.plan.specs.Words.{words_of}
use Rattle.noting.proofs.replay.replay.Goals as goal

pub loop-at-init : goal.loop-at-init
loop-at-init c = (omega arith, omega arith, ap length (standing_none _ 0 (omega arith)), iter_zero _ _, omega arith)

pub overflow_add-levels : goal.overflow_add-levels
overflow_add-levels c = omega arith

pub loop-at-smaller : goal.loop-at-smaller
loop-at-smaller c =
    let l = c.loop-at in
    let a = c.args in
    let r = c.replay_level-p in
    let s = level_step (words_of a.plan.now) a.log.now a.used (marks_of l.marks) l.noted _ _ l.at r.result r.ensures.0 (omega arith) (not-false _ c.if-not-p.false) in
    omega (arith, s.up, s.down)

pub loop-at-preserved : goal.loop-at-preserved
loop-at-preserved c =
    let l = c.loop-at in
    let a = c.args in
    let r = c.replay_level-p in
    let s = level_step (words_of a.plan.now) a.log.now a.used (marks_of l.marks) l.noted _ _ l.at r.result r.ensures.0 (omega arith) (not-false _ c.if-not-p.false) in (
      s.down,
      omega (arith, s.up),
      s.stands ∙ ap (λ (n : ℕ). n + 1) l.invariant.2,
      level_on _ _ r.result (not-false _ c.if-not-p.false) ∙ iter_more _ _ _ _ _ l.invariant.3 r.ensures.0,
      r.ensures.1,
    )

pub returns-then-not-p : goal.returns-then-not-p
returns-then-not-p c =
    let l = c.loop-at in
    let a = c.args in
    let r = c.replay_level-p in
    replay_other (words_of a.plan.now) a.log.now a.used _ (l.levels + 1) (omega arith) _ _ r.result (iter_more _ _ _ _ _ l.invariant.3 r.ensures.0) (not-true _ c.if-not-p.true) a.count

pub returns : goal.returns
returns c =
    let l = c.loop-at in
    let a = c.args in
    replay_through (words_of a.plan.now) a.log.now a.used _ l.levels (omega arith) _ _ (place true l.at) l.invariant.3 refl (omega arith) l.invariant.2 a.count
