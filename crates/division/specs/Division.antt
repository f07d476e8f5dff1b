-- Document 01, "Region" and "Valid division", as it words them. No search and nothing that computes stands here; that the search finds
-- exactly these regions and weights is proved in proofs/Divided.antt.
use Rattle.std.specs.Prelude.{ℕ, suc, ◌<◌, ◌≤◌, ◌≡◌, ◌⊎◌, ◌↔◌, Bool, true}
use mathlib.Core.List.{List, Memᴰ}
use Rattle.base.specs.Lists.{total}
use Rattle.sat.specs.Literal.{Holds}
use Rattle.division.specs.Plan.{Plan, left, right}

-- A truth value for each variable: σ. An edge whose literal holds is disconnected (document 01: shut), one whose literal fails is
-- connected (open).
abbrev pub Disconnected : Plan → (ℕ → Bool) → ℕ → Type 0
Disconnected d σ g = Holds σ (d.edge_lit g)

abbrev pub Connected : Plan → (ℕ → Bool) → ℕ → Type 0
Connected d σ g = Holds σ (d.edge_lit g) → ⊥

-- edge g joins p and q
abbrev pub Joins : Plan → ℕ → ℕ → ℕ → Type 0
Joins d g p q = ((left d g ≡ p) × (right d g ≡ q)) ⊎ ((left d g ≡ q) × (right d g ≡ p))

-- "vertices joined by connected edges": q is in the region of p
pub data Region (d : Plan) (σ : ℕ → Bool) (p : ℕ) : ℕ → Type 0 where
  here : Region d σ p p
  further : {q r : ℕ} (g : ℕ) → Region d σ p q → g < d.edges → Connected d σ g → Joins d g q r → Region d σ p r

-- w is the weight of a region: the sum over exactly the vertices that are in it
pub record Weight (d : Plan) (region : ℕ → Type 0) (w : ℕ) : Type 0 where
  pub member : ℕ → Bool
  pub exactly : (q : ℕ) → q < d.vertices → (member q ≡ true) ↔ region q
  pub sum : w ≡ total member d.weight d.vertices

-- of v's region
abbrev pub RegionWeight : Plan → (ℕ → Bool) → ℕ → ℕ → Type 0
RegionWeight d σ v w = Weight d (Region d σ v) w

-- "a truth value for each variable such that no disconnected edge joins vertices of one region, and each vertex with a domain has its
-- region's weight in the domain, every size literal true exactly when its meaning is"
pub record Valid (d : Plan) (σ : ℕ → Bool) : Type 0 where
  pub apart : (g : ℕ) → g < d.edges → Disconnected d σ g → Region d σ (left d g) (right d g) → ⊥
  pub weight : ℕ → ℕ
  pub weighs : (v : ℕ) → v < d.vertices → RegionWeight d σ v (weight v)
  pub inside : (v : ℕ) → v < d.vertices → 0 < d.domain_len v → (j : ℕ) × (j < d.domain_len v) × (weight v ≡ d.domain v j)
  pub meant : (v j : ℕ) → v < d.vertices → suc j < d.domain_len v → Holds σ (d.dom_lit v j) ↔ (d.domain v (suc j) ≤ weight v)

-- "Standing literals, one for each variable, describe a valid division when the truth values in which they all hold are one."
pub record Describes (d : Plan) (ls : List ℕ) : Type 0 where
  pub σ : ℕ → Bool
  pub holds : (l : ℕ) → Memᴰ l ls → Holds σ l
  pub valid : Valid d σ
