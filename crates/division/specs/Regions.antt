-- Regions as the search finds them.
use Rattle.std.specs.Prelude.{ℕ, zero, suc, Bool, ltb}
use Rattle.base.specs.Iter.{pick}
use Rattle.base.specs.Lists.{total}
use Rattle.graph.specs.Search.{Graph, searched, reached_yet}
use Rattle.division.specs.Plan.{Plan}

-- whether the search from u comes to q
unfoldable pub within : Plan → Graph → ℕ → ℕ → Bool
within d e u q = reached_yet (searched e d.edges d.vertices u) q

-- the weight of all that u is joined to
unfoldable pub weight_from : Plan → Graph → ℕ → ℕ
weight_from d e u = total (within d e u) d.weight d.vertices

-- the lowest number below n that passes the test, or n
unfoldable pub lowest : (ℕ → Bool) → ℕ → ℕ
lowest t zero = 0
lowest t (suc n) = pick (ltb (lowest t n) n) (lowest t n) (pick (t n) n (suc n))

-- a region's label: the lowest vertex of it. Regions in the order of their labels are in the order of `compute_regions`.
unfoldable pub region_label : Plan → Graph → ℕ → ℕ
region_label d e v = lowest (within d e v) d.vertices
