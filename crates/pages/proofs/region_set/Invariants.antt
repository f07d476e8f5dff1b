use Prim.Native.Nat.{ℕ}
use lib.Dec.{eqb}
use lib.ListN.{get_or}
use Rattle.pages.proofs.Sets.{Down}
use Rattle.pages.proofs.region_set.Given as goal

abbrev pub invariant-loop-v : goal.invariant-loop-v
invariant-loop-v l = Down (λ (i : ℕ). eqb (get_or l.labels i 0) l.r) l.n l.set l.v
