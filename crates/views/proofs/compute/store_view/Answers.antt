use mathlib.Core.Path.{sym, ◌∙◌}
use Rattle.views.specs.Compute.{weighed_from}
use Rattle.views.proofs.Computing.{stored, stored_regions}
use Rattle.views.proofs.compute.store_view.Goals as goal

pub returns-then-lower : goal.returns-then-lower
unfolding weighed_from
returns-then-lower c =
    let d = c.region_weights-decided_known.ensures in
    let p = c.region_weights-potential_known.ensures in
    stored c.args.noted.now c.args.view.now c.args.vertices (weighed_from c.args.decided.now c.args.words.now c.args.vertices) (weighed_from c.args.potential.now c.args.words.now c.args.vertices) _ _ c.upper_bounds-upper.ensures c.lower_bounds-lower.ensures _ _ _ _ (sym d.0 ∙ c.if-decided_known.true) (sym p.0 ∙ c.if-potential_known.true) c.if-upper.true c.if-lower.true
    (stored_regions 0 _ _ _ _ _ _ d.1 c.store_regions.ensures) (stored_regions 64 _ _ _ _ _ _ p.1 c.store_regions-then-lower.ensures) c.store_bounds.ensures c.store_bounds-then-lower.ensures
