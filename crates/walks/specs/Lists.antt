-- What the lists are: the theorems' statements.
use Rattle.std.specs.Prelude.{ℕ, suc, pred, ◌<◌, ◌≤◌, ◌≡◌, ◌⊎◌, List, map, length, get_or}
use Rattle.base.specs.Lists.{Every}
use Rattle.sat.specs.Literal.{negate}
use Rattle.graph.specs.Search.{Graph, Scan, at, edge_to, end_a, end_b}
use Rattle.graph.specs.Paths.{Leads, Chain, Joined}

-- A path's list: the literals of edges that lead from u to v, fewer than there are vertices ("a path reason has at most (pens − 1) literals"),
-- and as few as of any way from u to v.
pub record PathFrom (lits : ℕ → ℕ) (e : Graph) (edges vertices u v : ℕ) (l : List ℕ) : Type 0 where
  pub along : (gs : List ℕ) × Chain e edges u gs v × (l ≡ map (λ g. negate (lits g)) gs)
  pub short : length l < vertices
  pub least : (gs : List ℕ) → Chain e edges u gs v → length l ≤ length gs

-- A decided region's list: one literal for each vertex after the first, of an edge that joins it to a vertex before it.
pub record TreeOf (lits : ℕ → ℕ) (e : Graph) (edges : ℕ) (s : Scan) (l : List ℕ) : Type 0 where
  pub count : length l ≡ pred s.count
  pub entry : (i : ℕ) → suc i < s.count → get_or l i 0 ≡ negate (lits (edge_to s (at s (suc i))))
  pub joins : (i : ℕ) → suc i < s.count → (j : ℕ) × (j ≤ i) × Leads e edges (edge_to s (at s (suc i))) (at s j) (at s (suc i))

-- edge g is disconnected, and one end of it can be joined to u and the other cannot
pub record Border (e : Graph) (edges u g : ℕ) : Type 0 where
  pub known : g < edges
  pub shut : get_or e.state g 0 ≡ 1
  pub out : (Joined e edges u (end_a e g) × (Joined e edges u (end_b e g) → ⊥)) ⊎ (Joined e edges u (end_b e g) × (Joined e edges u (end_a e g) → ⊥))

-- A potential region's list: the literals of exactly these edges, and no more of them than there are edges.
pub record BorderOf (lits : ℕ → ℕ) (e : Graph) (edges u : ℕ) (l : List ℕ) : Type 0 where
  pub only : Every (λ x. (g : ℕ) × Border e edges u g × (x ≡ lits g)) l
  pub all : (g : ℕ) → Border e edges u g → (i : ℕ) × (i < length l) × (get_or l i 0 ≡ lits g)
  pub few : length l ≤ edges

-- A region's vertices: exactly those joined to u, each once.
pub record MembersOf (e : Graph) (edges u : ℕ) (l : List ℕ) : Type 0 where
  pub only : (i : ℕ) → i < length l → Joined e edges u (get_or l i 0)
  pub all : (q : ℕ) → Joined e edges u q → (i : ℕ) × (i < length l) × (get_or l i 0 ≡ q)
  pub once : (i j : ℕ) → i < length l → j < length l → get_or l i 0 ≡ get_or l j 0 → i ≡ j
