use mathlib.Core.Path.{refl, sym, ap, ◌∙◌}
use Prim.Native.Nat.{ℕ, ◌*◌, ◌/◌}
use native.Mathlib.Omega.{arith}
use Rattle.noting.specs.Following.{marks_of}
use Rattle.noting.proofs.Follow.{found_at, level_other, level_marked, level_free}
use Rattle.plan.specs.Words.{words_of}
use Rattle.noting.proofs.replay.replay_level.Goals as goal

pub returns-then-marked : goal.returns-then-marked
returns-then-marked c =
    let a = c.args in
    let f = c.find-k in
    let m = c.marked in
    (level_marked (words_of a.plan.now) a.log.now (marks_of a.marks.now) a.noted.now a.used a.at _ _ refl refl (omega arith) (c.if-w-from.false ∙ ap (λ (n : ℕ). 65536 * n) c.from.ensures) f.result (found_at (words_of a.plan.now) (c.variable.ensures ∙ ap (λ (n : ℕ). n / 2) c.from-2.ensures) f.ensures.0) (sym m.ensures ∙ c.if-marked.true), omega arith)

pub returns : goal.returns
returns c =
    let a = c.args in
    let f = c.find-k in
    let m = c.marked in
    (level_free (words_of a.plan.now) a.log.now (marks_of a.marks.now) a.noted.now a.used a.at _ _ refl refl (omega arith) (c.if-w-from.false ∙ ap (λ (n : ℕ). 65536 * n) c.from.ensures) f.result (found_at (words_of a.plan.now) (c.variable.ensures ∙ ap (λ (n : ℕ). n / 2) c.from-2.ensures) f.ensures.0) (sym m.ensures ∙ c.if-marked.false) _ _ _ c.mark.ensures.0 c.follow_at.ensures, c.mark.ensures.1)

pub returns-then-w-from : goal.returns-then-w-from
returns-then-w-from c =
    let a = c.args in
    (level_other (words_of a.plan.now) a.log.now (marks_of a.marks.now) a.noted.now a.used a.at _ _ refl refl (omega arith) (λ e. c.if-w-from.true (e ∙ ap (λ (n : ℕ). 65536 * n) (sym c.from.ensures))), omega arith)
