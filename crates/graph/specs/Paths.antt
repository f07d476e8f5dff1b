-- Edges that lead from vertex to vertex, chains of them, and what a search is to find.
use Rattle.std.specs.Prelude.{ℕ, zero, suc, ◌<◌, ◌≤◌, ◌≡◌, ◌⊎◌, true, List, [], ◌∷◌, eqb, length}
use Rattle.base.specs.Iter.{pick}
use Rattle.graph.specs.Search.{Scan, at, parent_of, edge_to, reached_yet, Graph, is_open, end_a, end_b}

-- edge g can be passed, from p to q
pub record Leads (e : Graph) (edges g p q : ℕ) : Type 0 where
  pub known : g < edges
  pub passed : is_open e g ≡ true
  pub ends : ((end_a e g ≡ p) × (end_b e g ≡ q)) ⊎ ((end_b e g ≡ p) × (end_a e g ≡ q))

-- the edges of the list, the last one first, lead from p to q
pub data Chain (e : Graph) (edges p : ℕ) : List ℕ → ℕ → Type 0 where
  here : Chain e edges p [] p
  there : {q r : ℕ} {l : List ℕ} (g : ℕ) → Chain e edges p l q → Leads e edges g q r → Chain e edges p (g ∷ l) r

-- vertex q was reached
abbrev pub Seen : Scan → ℕ → Type 0
Seen s q = reached_yet s q ≡ true

-- the edges by which a vertex was reached, back to the start; in n steps at most
unfoldable pub climb : Scan → ℕ → ℕ → ℕ → List ℕ
climb s start zero q = []
climb s start (suc n) q = pick (eqb q start) [] (edge_to s q ∷ climb s start n (parent_of s q))

-- What a search finds: the vertices that chains lead to, each once, and for each a shortest chain.
pub record Found (e : Graph) (edges vertices start : ℕ) (s : Scan) : Type 0 where
  pub few : s.count ≤ vertices
  pub below : (q : ℕ) → Seen s q → q < vertices
  pub all : (q : ℕ) (l : List ℕ) → Chain e edges start l q → Seen s q
  pub listed : (q : ℕ) → Seen s q → (i : ℕ) × (i < s.count) × (at s i ≡ q)
  pub only : (i : ℕ) → i < s.count → Seen s (at s i)
  pub once : (i j : ℕ) → i < s.count → j < s.count → at s i ≡ at s j → i ≡ j
  pub path : (q : ℕ) → Seen s q → Chain e edges start (climb s start vertices q) q
  pub short : (q : ℕ) → Seen s q → length (climb s start vertices q) < vertices
  pub least : (q : ℕ) (l : List ℕ) → Chain e edges start l q → length (climb s start vertices q) ≤ length l

-- some chain leads from p to q
abbrev pub Joined : Graph → ℕ → ℕ → ℕ → Type 0
Joined e edges p q = (l : List ℕ) × Chain e edges p l q
