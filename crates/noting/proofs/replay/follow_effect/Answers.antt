use mathlib.Core.Path.{sym, ◌∙◌}
use native.Mathlib.Omega.{arith}
use Rattle.noting.proofs.Follow.{holds_before, effect_yes, effect_no}
use Rattle.noting.proofs.replay.follow_effect.Goals as goal

pub overflow_add-result : goal.overflow_add-result
overflow_add-result c =
    let a = c.args in
    let h = holds_before a.log.now a.used a.at c.undo_record-r.result (sym c.holds_at.ensures ∙ c.if-not-holds_at.false) in
    omega arith

pub returns : goal.returns
returns c =
    let a = c.args in
    let u = c.undo_record-r in
    let h = c.holds_at in
    effect_yes a.log.now a.noted.now a.used a.lit a.at a.e u.result u.ensures h.result h.ensures c.if-not-holds_at.false _ c.apply.ensures

pub returns-then-not-holds_at : goal.returns-then-not-holds_at
returns-then-not-holds_at c =
    let a = c.args in
    let u = c.undo_record-r in
    let h = c.holds_at in
    effect_no a.log.now a.noted.now a.used a.lit a.at a.e u.result u.ensures h.result h.ensures c.if-not-holds_at.true
