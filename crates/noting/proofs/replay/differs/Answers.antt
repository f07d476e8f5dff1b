use mathlib.Core.Bool.{not}
use mathlib.Core.Path.{refl, ap, ◌∙◌}
use native.Mathlib.Omega.{arith}
use Rattle.noting.proofs.Follow.{differs_on, differs_off}
use Rattle.plan.specs.Words.{words_of}
use Rattle.noting.proofs.replay.differs.Goals as goal

pub replay-requires : goal.replay-requires
replay-requires c = (omega arith, refl)

pub returns-else-not-replay : goal.returns-else-not-replay
returns-else-not-replay c =
    let a = c.args in
    differs_on (words_of a.plan.now) a.log.now a.used a.count _ _ _ c.fresh_bounds.ensures c.replay.ensures a.noted.now c.if-not-replay.false _ c.noted_differs.ensures

pub returns-then-not-replay : goal.returns-then-not-replay
returns-then-not-replay c =
    let a = c.args in
    ap not c.if-not-replay.true ∙ differs_off (words_of a.plan.now) a.log.now a.used a.count _ _ _ c.fresh_bounds.ensures c.replay.ensures a.noted.now c.if-not-replay.true
