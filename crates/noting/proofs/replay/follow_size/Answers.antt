use mathlib.Core.Path.{◌≡◌, ◌∙◌}
use native.Mathlib.Omega.{arith}
use Rattle.noting.proofs.Follow.{slot_effect, slot_idle, size_low, size_low_not, size_high, size_high_not}
use Rattle.plan.specs.Words.{words_of}
use Rattle.noting.proofs.replay.follow_size.Goals as goal

pub returns-then-lower_bound-x : goal.returns-then-lower_bound-x
returns-then-lower_bound-x c =
    let a = c.args in
    let m = c.lit in
    let x = c.domain-x in
    let b = c.lower_bound in
    c.follow_effect.ensures
    ∙ slot_effect (words_of a.plan.now) a.log.now a.noted.now a.used a.lit a.s a.at _ (size_low (words_of a.plan.now) a.log.now a.noted.now a.used a.lit a.s a.at (omega arith) m.result m.ensures x.result b.result c.if-lit.true x.ensures b.ensures c.if-lower_bound-x.true) (λ (z : 2 ≡ 0). omega arith)

pub returns-then-lit : goal.returns-then-lit
returns-then-lit c =
    let a = c.args in
    let m = c.lit in
    let x = c.domain-x in
    let b = c.lower_bound in
    slot_idle (words_of a.plan.now) a.log.now a.noted.now a.used a.lit a.s a.at (size_low_not (words_of a.plan.now) a.log.now a.noted.now a.used a.lit a.s a.at (omega arith) m.result m.ensures x.result b.result c.if-lit.true x.ensures b.ensures c.if-lower_bound-x.false)

pub returns-then-x-upper_bound : goal.returns-then-x-upper_bound
returns-then-x-upper_bound c =
    let a = c.args in
    let m = c.lit in
    let x = c.domain-x-2 in
    let b = c.upper_bound in
    c.follow_effect-then-x-upper_bound.ensures
    ∙ slot_effect (words_of a.plan.now) a.log.now a.noted.now a.used a.lit a.s a.at _ (size_high (words_of a.plan.now) a.log.now a.noted.now a.used a.lit a.s a.at (omega arith) m.result m.ensures x.result b.result c.if-lit.false x.ensures b.ensures c.if-x-upper_bound.true) (λ (z : 3 ≡ 0). omega arith)

pub returns : goal.returns
returns c =
    let a = c.args in
    let m = c.lit in
    let x = c.domain-x-2 in
    let b = c.upper_bound in
    slot_idle (words_of a.plan.now) a.log.now a.noted.now a.used a.lit a.s a.at (size_high_not (words_of a.plan.now) a.log.now a.noted.now a.used a.lit a.s a.at (omega arith) m.result m.ensures x.result b.result c.if-lit.false x.ensures b.ensures c.if-x-upper_bound.false)
