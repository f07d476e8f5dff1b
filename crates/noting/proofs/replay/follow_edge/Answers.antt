use mathlib.Core.Path.{◌∙◌}
use native.Mathlib.Omega.{arith}
use Rattle.noting.proofs.Follow.{slot_effect, slot_edge, edge_effective}
use Rattle.plan.specs.Words.{words_of}
use Rattle.noting.proofs.replay.follow_edge.Goals as goal

pub returns : goal.returns
returns c =
    let a = c.args in
    let m = c.lit in
    let e = c.edge_effect-e in
    c.follow_effect.ensures
    ∙ slot_effect (words_of a.plan.now) a.log.now a.noted.now a.used a.lit a.s a.at e.result (e.ensures ∙ slot_edge (words_of a.plan.now) a.log.now a.noted.now a.used a.lit a.s a.at (omega arith) (omega arith) m.result m.ensures) (edge_effective (words_of a.plan.now) a.log.now a.noted.now a.used a.lit a.s a.at _ e.result e.ensures)
