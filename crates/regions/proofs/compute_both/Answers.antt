use mathlib.Core.Path.{sym, ◌∙◌}
use Rattle.graph.proofs.Walkable.{walkable_fine}
use Rattle.regions.proofs.compute_both.Goals as goal

pub label_both-requires : goal.label_both-requires
label_both-requires c = walkable_fine _ _ _ _ (sym c.walkable.ensures ∙ c.if-walkable.true)
