use mathlib.Core.Path.{refl, sym, ◌∙◌}
use mathlib.Core.List.{[]}
use native.Mathlib.Omega.{arith}
use Rattle.analysis.specs.Placed.{words}
use Rattle.analysis.proofs.Walls.{low, none_kept, kept_low, kept_lowest}
use Rattle.analysis.proofs.step1.walled_match.Goals as goal

pub bounds-walls-place : goal.bounds-walls-place
bounds-walls-place c = low _ _ _ c.pair_place-place.ensures

pub returns-then-k-eq0 : goal.returns-then-k-eq0
returns-then-k-eq0 c = none_kept (words [] c.args.edges.now c.args.noted.now c.args.view.now) _ _ _ _ _ _ c.args.walls.now c.requires.2 c.left_region.ensures c.right_region.ensures c.pair_place-place.ensures c.from-k.ensures c.if-k-eq0.true

pub matches-requires : goal.matches-requires
matches-requires c =
    let k = kept_low (words [] c.args.edges.now c.args.noted.now c.args.view.now) _ _ _ _ _ _ c.args.walls.now c.requires.2 c.left_region.ensures c.right_region.ensures c.pair_place-place.ensures c.from-k.ensures in
    (c.requires.0, omega (arith, k, c.requires.1))

pub returns-then-matches : goal.returns-then-matches
returns-then-matches c = kept_lowest (words [] c.args.edges.now c.args.noted.now c.args.view.now) _ _ _ _ _ _ c.args.walls.now c.requires.2 c.left_region.ensures c.right_region.ensures c.pair_place-place.ensures c.from-k.ensures _ c.if-k-eq0.false refl (sym c.matches.ensures ∙ c.if-matches.true)
