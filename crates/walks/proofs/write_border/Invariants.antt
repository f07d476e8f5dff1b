use mathlib.Core.Bool.{true}
use mathlib.Core.Path.{◌≡◌}
use Rattle.walks.specs.Walk.{word_at, side_at}
use Rattle.walks.specs.Written.{out_of}
use Rattle.graph.specs.Search.{graph, scan_of, reached_yet}
use Rattle.base.specs.Iter.{iter}
use Rattle.walks.proofs.write_border.Given as goal

abbrev pub invariant-loop-p : goal.invariant-loop-p
invariant-loop-p l = out_of l.out l.n ≡ iter (side_at (word_at l.lits) (graph l.edges l.state true) l.num_edges (reached_yet (scan_of l.scan 0))) l.p (out_of l.initial.out l.at)
