use mathlib.Core.Path.{◌≡◌}
use Prim.Native.Nat.{◌-◌, ◌<◌}
use Rattle.walks.specs.Walk.{word_at, path_back}
use Rattle.walks.specs.Written.{out_of, written}
use Rattle.graph.specs.Search.{scan_of}
use Rattle.walks.proofs.write_path.Given as goal

abbrev pub invariant-loop : goal.invariant-loop
invariant-loop l =
    (written (path_back (word_at l.lits) (scan_of l.scan 0) l.start l.num_vertices l.v) (out_of l.initial.out l.at) ≡ written (path_back (word_at l.lits) (scan_of l.scan 0) l.start (l.num_vertices - l.counter) l.p) (out_of l.out l.n))
    × (l.p < 64)
