-- A division as the search sees it: its edges' states, its regions' weights, and when it is valid, all of it computed.
use Rattle.std.specs.Prelude.{ℕ, suc, ◌<◌, ◌≤◌, ◌≡◌, ◌↔◌, Bool, false}
use Rattle.base.specs.Iter.{pick}
use Rattle.base.specs.Lists.{tab}
use Rattle.sat.specs.Literal.{value, Holds}
use Rattle.graph.specs.Search.{Graph, graph}
use Rattle.graph.specs.Paths.{Joined}
use Rattle.division.specs.Plan.{Plan, left, right}
use Rattle.division.specs.Regions.{weight_from}

-- the edges' states in a division: disconnected or connected
unfoldable pub mark : Plan → (ℕ → Bool) → ℕ → ℕ
mark d σ g = pick (value σ (d.edge_lit g)) 1 2

-- the graph of its open edges
abbrev pub graph_of : Plan → (ℕ → Bool) → Graph
graph_of d σ = graph d.ends (tab (mark d σ) d.edges) false

-- p and q are in one region of the division
abbrev pub Together : Plan → (ℕ → Bool) → ℕ → ℕ → Type 0
Together d σ p q = Joined (graph_of d σ) d.edges p q

-- the weight of v's region
abbrev pub region_weight : Plan → (ℕ → Bool) → ℕ → ℕ
region_weight d σ v = weight_from d (graph_of d σ) v

-- the division is valid
pub record Computed (d : Plan) (σ : ℕ → Bool) : Type 0 where
  -- no disconnected edge joins vertices of one region
  pub apart : (g : ℕ) → g < d.edges → Holds σ (d.edge_lit g) → Together d σ (left d g) (right d g) → ⊥
  -- the weight of a region is in the domain of each of its vertices
  pub inside : (v : ℕ) → v < d.vertices → 0 < d.domain_len v → (j : ℕ) × (j < d.domain_len v) × (region_weight d σ v ≡ d.domain v j)
  -- each size literal means what it says
  pub meant : (v j : ℕ) → v < d.vertices → suc j < d.domain_len v → Holds σ (d.dom_lit v j) ↔ (d.domain v (suc j) ≤ region_weight d σ v)
