-- Region numbers by one walk of the edges, for the Rust's `compute_regions`: the label of a vertex is the lowest vertex of its region.
use Rattle.std.specs.Prelude.{ℕ, ◌<◌, ◌≤◌, ◌≡◌, List, eqb, ltb, get_or}
use Rattle.base.specs.Iter.{iter, pick}
use Rattle.graph.specs.Lists.{mapped}
use Rattle.graph.specs.Search.{Graph, is_open, end_a, end_b}
use Rattle.graph.specs.Bounds.{walkable}
use Rattle.graph.specs.Paths.{Joined}

-- the label of vertex q
abbrev pub label_of : List ℕ → ℕ → ℕ
label_of l q = get_or l q 0

-- hi becomes lo
unfoldable pub renamed : ℕ → ℕ → ℕ → ℕ
renamed lo hi x = pick (eqb x hi) lo x

-- two regions become one: every vertex with the greater label gets the lower one
abbrev pub merged : ℕ → ℕ → ℕ → List ℕ → List ℕ
merged vertices lo hi l = mapped (λ _ x. renamed lo hi x) vertices l

-- edge g joins the regions of its ends, if it can be passed
unfoldable pub bridged : Graph → ℕ → ℕ → List ℕ → List ℕ
bridged e vertices g l =
    let a = label_of l (end_a e g) in
    let b = label_of l (end_b e g) in
    pick (is_open e g) (pick (ltb a b) (merged vertices a b l) (pick (ltb b a) (merged vertices b a l) l)) l

-- every vertex is a region of its own
abbrev pub alone : ℕ → List ℕ → List ℕ
alone vertices l = mapped (λ i _. i) vertices l

-- the labels once every edge was walked, in a list that was lent
unfoldable pub labelled : Graph → ℕ → ℕ → List ℕ → List ℕ
labelled e edges vertices l = iter (bridged e vertices) edges (alone vertices l)

-- the same, where the graph can be walked
unfoldable pub regions_of : Graph → ℕ → ℕ → List ℕ → List ℕ
regions_of e edges vertices l = pick (walkable e.ends e.state edges vertices) (labelled e edges vertices l) l

-- Document 01's region, "pens joined by open gates": two vertices have one label exactly if they are joined, and it is the lowest vertex of the region.
pub record Labelled (e : Graph) (edges vertices : ℕ) (l : List ℕ) : Type 0 where
  pub same : (p q : ℕ) → p < vertices → q < vertices → label_of l p ≡ label_of l q → Joined e edges p q
  pub joined : (p q : ℕ) → p < vertices → q < vertices → Joined e edges p q → label_of l p ≡ label_of l q
  pub below : (q : ℕ) → q < vertices → label_of l q ≤ q
  pub own : (q : ℕ) → q < vertices → label_of l (label_of l q) ≡ label_of l q
  pub lowest : (p q : ℕ) → p < vertices → q < vertices → Joined e edges p q → label_of l q ≤ p
