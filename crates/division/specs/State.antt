-- The part of the Rust's `GraphDivision` that notifications change: what has been noted of the literals that stand.
use Rattle.std.specs.Prelude.{ℕ, true, false, ltb, List, get_or}
use Rattle.graph.specs.Search.{Graph, graph}
use Rattle.graph.specs.Paths.{Joined}
use Rattle.division.specs.Plan.{Plan}
use Rattle.division.specs.Regions.{weight_from, lowest}

-- edge states as the search reads them: 0 undecided, 1 disconnected, 2 connected; a bound's literal is a list of at most one
pub record State : Type 0 where
  pub edge_state : List ℕ
  pub lower : ℕ → ℕ
  pub upper : ℕ → ℕ
  pub lower_lit : ℕ → List ℕ
  pub upper_lit : ℕ → List ℕ

-- Document 02, request 2: "the lowest pen whose bounds cross"; the number of vertices where none do
unfoldable pub crossed_at : Plan → State → ℕ
crossed_at d s = lowest (λ v. ltb (s.upper v) (s.lower v)) d.vertices

-- the state of edge g
abbrev pub state_of : State → ℕ → ℕ
state_of s g = get_or s.edge_state g 0

-- Document 01, "Region: pens joined by open gates (potential region: by gates not shut)", in a state that is not yet decided whole.
abbrev pub decided : Plan → State → Graph
decided d s = graph d.ends s.edge_state false

abbrev pub potential : Plan → State → Graph
potential d s = graph d.ends s.edge_state true

abbrev pub Same : Plan → State → ℕ → ℕ → Type 0
Same d s p q = Joined (decided d s) d.edges p q

abbrev pub Near : Plan → State → ℕ → ℕ → Type 0
Near d s p q = Joined (potential d s) d.edges p q

abbrev pub decided_weight : Plan → State → ℕ → ℕ
decided_weight d s v = weight_from d (decided d s) v

abbrev pub potential_weight : Plan → State → ℕ → ℕ
potential_weight d s v = weight_from d (potential d s) v
