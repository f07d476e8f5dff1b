use mathlib.Core.Path.{◌≡◌}
use Rattle.regions.specs.Labels.{bridged}
use Rattle.graph.specs.Search.{graph}
use Rattle.base.specs.Iter.{iter}
use Rattle.regions.proofs.label.Given as goal

abbrev pub invariant-loop-g : goal.invariant-loop-g
invariant-loop-g l = l.labels ≡ iter (bridged (graph l.edges l.state l.potential) l.num_vertices) l.g l.initial.labels
