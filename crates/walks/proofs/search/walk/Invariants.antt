use mathlib.Core.Path.{◌≡◌}
use Rattle.graph.specs.Search.{graph, visited, scan_of}
use Rattle.base.specs.Iter.{iter}
use Rattle.walks.proofs.search.walk.Given as goal

abbrev pub invariant-loop-g : goal.invariant-loop-g
invariant-loop-g l = (scan_of l.scan l.n ≡ iter (visited (graph l.edges l.state l.potential) l.p) l.g (scan_of l.initial.scan l.count))
