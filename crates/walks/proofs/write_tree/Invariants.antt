use mathlib.Core.Path.{◌≡◌}
use Rattle.walks.proofs.Walk.{tree_at}
use Rattle.walks.specs.Walk.{word_at}
use Rattle.walks.specs.Written.{out_of}
use Rattle.graph.specs.Search.{scan_of}
use Rattle.base.specs.Iter.{iter}
use Rattle.walks.proofs.write_tree.Given as goal

abbrev pub invariant-loop-i : goal.invariant-loop-i
invariant-loop-i l = out_of l.out l.n ≡ iter (tree_at (word_at l.lits) (scan_of l.scan l.count)) l.i (out_of l.initial.out l.at)
