use mathlib.Core.Path.{sym, ◌∙◌}
use Rattle.graph.proofs.Walkable.{walkable_fine}
use Rattle.regions.proofs.compute_regions.Goals as goal

pub label-requires : goal.label-requires
label-requires c = walkable_fine _ _ _ _ (sym c.walkable.ensures ∙ c.if-walkable.true)
