use borrow.Author.Tests.{ne_eqb}
use native.Mathlib.Omega.{arith}
use Prim.Native.Nat.{◌<◌}
use Rattle.graph.specs.Search.{scan_of}
use Rattle.graph.proofs.Mark.{room}
use Rattle.walks.proofs.search.reach.Goals as goal
use Rattle.walks.proofs.search.reach.Goals.{Else-scan-i-eq1}

below : (c : Else-scan-i-eq1) → c.args.count < 64
below c =
    let a = c.args in
    room a.p a.g a.q (scan_of a.scan.now a.count) 64 c.requires.1 c.requires.0 (rw c.from-i.ensures at (ne_eqb _ _ c.if-scan-i-eq1.false))

pub bounds-scan-count : goal.bounds-scan-count
bounds-scan-count c = omega (arith, below (goal.at.bounds-scan-count c).Else-scan-i-eq1)

pub overflow_add-result : goal.overflow_add-result
overflow_add-result c = omega (arith, below (goal.at.overflow_add-result c).Else-scan-i-eq1)
