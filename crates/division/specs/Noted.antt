-- What noting makes sure of: bounds are entries of a domain with their literals, and edge states are what stands.
use Rattle.std.specs.Prelude.{ℕ, suc, ◌<◌, ◌≤◌, ◌≡◌, ◌↔◌, get_or, List, [], ◌∷◌}
use Rattle.base.specs.Lists.{Every}
use Rattle.sat.specs.Literal.{negate}
use Rattle.division.specs.Plan.{Plan}
use Rattle.division.specs.State.{State}

-- a lower bound of vertex v, and the literal that it is due to
pub data Lower (d : Plan) (v b : ℕ) (ls : List ℕ) : Type 0 where
  free : d.domain_len v ≡ 0 → b ≡ 0 → ls ≡ [] → Lower d v b ls
  least : 0 < d.domain_len v → b ≡ d.domain v 0 → ls ≡ [] → Lower d v b ls
  lit : (j : ℕ) → suc j < d.domain_len v → b ≡ d.domain v (suc j) → ls ≡ d.dom_lit v j ∷ [] → Lower d v b ls

-- an upper bound, the same
pub data Upper (d : Plan) (v b : ℕ) (ls : List ℕ) : Type 0 where
  free : d.domain_len v ≡ 0 → b ≡ 2147483647 → ls ≡ [] → Upper d v b ls
  last : (k : ℕ) → d.domain_len v ≡ suc k → b ≡ d.domain v k → ls ≡ [] → Upper d v b ls
  lit : (j : ℕ) → suc j < d.domain_len v → b ≡ d.domain v j → ls ≡ negate (d.dom_lit v j) ∷ [] → Upper d v b ls

-- the bounds of all vertices are such
pub record Bounded (d : Plan) (s : State) : Type 0 where
  pub low : (v : ℕ) → v < d.vertices → Lower d v (s.lower v) (s.lower_lit v)
  pub high : (v : ℕ) → v < d.vertices → Upper d v (s.upper v) (s.upper_lit v)

-- the state is what noting the standing literals gives
pub record Noted (d : Plan) (Stands : ℕ → Type 0) (s : State) : Type 0 where
  pub bounded : Bounded d s
  pub known : (g : ℕ) → g < d.edges → get_or s.edge_state g 0 ≤ 2
  pub disconnected : (g : ℕ) → g < d.edges → (get_or s.edge_state g 0 ≡ 1) ↔ Stands (d.edge_lit g)
  pub connected : (g : ℕ) → g < d.edges → (get_or s.edge_state g 0 ≡ 2) ↔ Stands (negate (d.edge_lit g))
  pub low_stands : (v : ℕ) → v < d.vertices → Every Stands (s.lower_lit v)
  pub high_stands : (v : ℕ) → v < d.vertices → Every Stands (s.upper_lit v)
  -- and no bound could be tighter
  pub raised : (v j : ℕ) → v < d.vertices → suc j < d.domain_len v → Stands (d.dom_lit v j) → d.domain v (suc j) ≤ s.lower v
  pub cut : (v j : ℕ) → v < d.vertices → suc j < d.domain_len v → Stands (negate (d.dom_lit v j)) → s.upper v ≤ d.domain v j

-- more has been noted: what was decided stays, bounds only tighten
pub record Later (d : Plan) (s t : State) : Type 0 where
  pub kept : (g : ℕ) → g < d.edges → (get_or s.edge_state g 0 ≡ 0 → ⊥) → get_or t.edge_state g 0 ≡ get_or s.edge_state g 0
  pub up : (v : ℕ) → v < d.vertices → s.lower v ≤ t.lower v
  pub down : (v : ℕ) → v < d.vertices → t.upper v ≤ s.upper v
