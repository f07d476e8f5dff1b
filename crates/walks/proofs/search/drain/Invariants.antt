use mathlib.Core.Path.{◌≡◌}
use Rattle.graph.specs.Search.{graph, popped, scan_of}
use Rattle.base.specs.Iter.{iter}
use Rattle.walks.proofs.search.drain.Given as goal

abbrev pub invariant-loop-h : goal.invariant-loop-h
invariant-loop-h l = (scan_of l.scan l.n ≡ iter (popped (graph l.edges l.state l.potential) l.num_edges) l.h (scan_of l.initial.scan l.count))
