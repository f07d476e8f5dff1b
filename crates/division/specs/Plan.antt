-- Document 01, "Plan": what the builder makes and the analysis reads.
use Rattle.std.specs.Prelude.{ℕ, suc, ◌<◌, ◌≤◌, ◌≡◌, Bool, false, ◌||◌, List, [], eqb, get_or}
use Rattle.base.specs.Iter.{pick}
use Rattle.graph.specs.Bounds.{Fine}

-- vertex: document 01's pen; edge: its gate; weight: its heads
pub record Plan : Type 0 where
  pub vertices : ℕ
  pub edges : ℕ
  -- the edge table, a pair of vertices for each edge
  pub ends : List (List ℕ)
  -- true: the edge is disconnected (document 01: shut); false: it is connected (open)
  pub edge_lit : ℕ → ℕ
  pub weight : ℕ → ℕ
  -- how many sizes a vertex's domain has; with none the vertex is bound by nothing
  pub domain_len : ℕ → ℕ
  pub domain : ℕ → ℕ → ℕ
  -- literal j: the size is at least entry j + 1
  pub dom_lit : ℕ → ℕ → ℕ
  -- the two options
  pub disallow_adjacent_same_size_regions : Bool
  pub allow_extra_walls : Bool

-- what the builder makes sure of: at most 64 vertices and 128 edges, an edge's ends are vertices, weights and sizes
-- go up to 1,000,000, and the sizes of a domain rise
pub record Proper (d : Plan) : Type 0 where
  pub fine : Fine d.vertices d.edges d.ends
  pub light : (v : ℕ) → v < d.vertices → d.weight v ≤ 1000000
  pub entries : (v j : ℕ) → v < d.vertices → j < d.domain_len v → d.domain v j ≤ 1000000
  pub rising : (v j : ℕ) → v < d.vertices → suc j < d.domain_len v → d.domain v j < d.domain v (suc j)

-- both options off
pub record Plain (d : Plan) : Type 0 where
  pub sizes : d.disallow_adjacent_same_size_regions ≡ false
  pub walls : d.allow_extra_walls ≡ false

-- the ends of edge g
abbrev pub left : Plan → ℕ → ℕ
left d g = get_or (get_or d.ends g []) 0 0

abbrev pub right : Plan → ℕ → ℕ
right d g = get_or (get_or d.ends g []) 1 0

-- edge g is at vertex u, and its other end
unfoldable pub touches : Plan → ℕ → ℕ → Bool
touches d u g = eqb (left d g) u || eqb (right d g) u

unfoldable pub across : Plan → ℕ → ℕ → ℕ
across d u g = pick (eqb (left d g) u) (right d g) (left d g)
