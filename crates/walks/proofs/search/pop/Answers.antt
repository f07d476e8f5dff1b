use native.Mathlib.Omega.{arith}
use Rattle.graph.proofs.Keep.{ok_count, at_low}
use Rattle.walks.proofs.search.pop.Goals as goal

pub bounds-scan-h : goal.bounds-scan-h
bounds-scan-h c = omega (arith, ok_count c.requires.2)

pub walk-requires : goal.walk-requires
walk-requires c = let p = c.requires in (p.0, p.1, at_low _ p.0.vertices p.2 c.if-h-count.true, p.2)
