use mathlib.Core.Path.{◌≡◌}
use Rattle.walks.specs.Written.{out_of, pushed}
use Rattle.graph.specs.Search.{scan_of, at}
use Rattle.base.specs.Iter.{iter}
use Rattle.walks.proofs.write_order.Given as goal

abbrev pub invariant-loop-i : goal.invariant-loop-i
invariant-loop-i l = out_of l.out l.n ≡ iter (λ j o. pushed (Rattle.graph.specs.Search.at (scan_of l.scan l.count) j) o) l.i (out_of l.initial.out l.at)
