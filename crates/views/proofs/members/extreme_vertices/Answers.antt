use Rattle.std.proofs.Common.{rules, refl, sym}
use Rattle.std.proofs.lemmas.List.{length-take-le}
use Rattle.noting.specs.Words.{state_of}
use Rattle.views.specs.Members.{higher, lesser}
use Rattle.views.proofs.Ties.{extremes_found, extremes_none}
use Rattle.plan.specs.Words.{words_of}
use Rattle.views.proofs.members.extreme_vertices.Goals as goal

pub slice_bounds-vertices-end : goal.slice_bounds-vertices-end
slice_bounds-vertices-end c = sym (length-take-le _ _ (c.list_members-m.ensures.1 c.if-not-m.false).0)

pub returns : goal.returns
returns c =
    let m = c.list_members-m in
    let a = c.args in
    extremes_found (words_of a.plan.now) a.edges a.noted.now a.region m.result.known m.result.count m.result.list m.ensures.0 m.ensures.1
    _ _ m.result.count refl c.if-not-m.false (c.best.ensures (higher (state_of a.noted.now)) (λ d b r p. search rules)) (c.best-2.ensures (lesser (state_of a.noted.now)) (λ d b r p. search rules))

pub returns-then-not-m : goal.returns-then-not-m
returns-then-not-m c =
    let m = c.list_members-m in
    let a = c.args in
    extremes_none (words_of a.plan.now) a.edges a.noted.now a.region m.result.known m.result.count m.result.list m.ensures.0 m.ensures.1 c.if-not-m.true
