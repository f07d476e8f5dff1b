use Rattle.std.proofs.Common.{◌≡◌, ℕ, ◌+◌, ◌-◌, ◌∙◌, min, length, ap, refl, arith, set}
use native.Mathlib.Nat.{not-suc-le-zero}
use Rattle.std.proofs.lemmas.Grind.{common_steps}
use Rattle.base.specs.Lists.{filled}
use Rattle.base.proofs.Loop.{iter_zero, iter_more, iter_done}
use Rattle.base.proofs.Filled.{filled_room}
use Rattle.base.proofs.fill.fill.Goals as goal

pub loop-i-init : goal.loop-i-init
unfolding filled
loop-i-init g c = ((λ f h. iter_zero _ _), (λ i h. absurd (not-suc-le-zero h)), (λ k h. refl))

pub loop-i-preserved : goal.loop-i-preserved
unfolding filled
loop-i-preserved g c =
    let l = c.loop-i in
    let stored = set l.words (c.args.from + l.i) in (
      (λ f h. iter_more _ _ _ _ _ (l.invariant.0 f (λ i x k p. h i x (omega arith) p)) (ap stored (h l.i c.word.result (omega arith) c.word.ensures))),
      (λ i h. grind (arith, common_steps)),
      (λ k h. grind (arith, common_steps)),
    )

pub returns-clause-filled : goal.returns-clause-filled
unfolding filled
returns-clause-filled g c = λ f h.
    let a = c.args in
    let l = c.loop-i in
    let room : c.min-room.result ≡ min (length a.words.now - a.from) a.n = c.min-room.ensures ∙ ap (λ (m : ℕ). min m a.n) c.saturating_sub.ensures in
    iter_done _ _ _ _ _ (l.invariant.0 f (λ i x k p. h i x (omega arith) p)) (omega arith) (omega arith)
    ∙ ap (λ (k : ℕ). filled a.from k f a.words.now) room ∙ filled_room a.from f a.words.now a.n
