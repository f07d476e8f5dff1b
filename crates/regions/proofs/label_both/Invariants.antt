use mathlib.Core.Path.{◌≡◌}
use mathlib.Core.Bool.{true, false}
use Rattle.regions.specs.Labels.{bridged}
use Rattle.graph.specs.Search.{graph}
use Rattle.base.specs.Iter.{iter}
use Rattle.regions.proofs.label_both.Given as goal

abbrev pub invariant-loop-g : goal.invariant-loop-g
invariant-loop-g l = (l.decided ≡ iter (bridged (graph l.edges l.state false) l.num_vertices) l.g l.initial.decided) × (l.potential ≡ iter (bridged (graph l.edges l.state true) l.num_vertices) l.g l.initial.potential)
