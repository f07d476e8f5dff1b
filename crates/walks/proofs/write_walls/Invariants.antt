use mathlib.Core.Bool.{true}
use mathlib.Core.Path.{◌≡◌}
use Rattle.walks.specs.Walk.{word_at, wall_at}
use Rattle.walks.specs.Written.{out_of}
use Rattle.graph.specs.Search.{graph, scan_of, reached_yet}
use Rattle.base.specs.Iter.{iter}
use Rattle.walks.proofs.write_walls.Given as goal

abbrev pub invariant-loop-g : goal.invariant-loop-g
invariant-loop-g l = out_of l.out l.n ≡ iter (wall_at (word_at l.lits) (graph l.edges l.state true) (reached_yet (scan_of l.scan 0)) l.p) l.g (out_of l.initial.out l.at)
