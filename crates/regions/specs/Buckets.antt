-- What each region has, in one pass over the vertices: its weight (document 01: heads), and its tightest bounds with a vertex that has them.
-- A number of vertex v is word first + v of a list that was lent.
use Rattle.std.specs.Prelude.{ℕ, ◌+◌, ◌<◌, ◌≡◌, ◌⊎◌, Bool, true, false, ◌&&◌, List, eqb, ltb, length, get_or, set}
use Rattle.base.specs.Iter.{iter, pick}
use Rattle.base.specs.Lists.{total}
use Rattle.graph.specs.Lists.{mapped, every, number_of}
use Rattle.regions.specs.Labels.{label_of}

-- whether there is a number for each vertex, and each label is a vertex
unfoldable pub labels_below : List ℕ → List ℕ → ℕ → ℕ → Bool
labels_below l words first vertices =
    pick (ltb 64 vertices) false (pick (ltb (length words) (first + vertices)) false (every (λ v. ltb (label_of l v) vertices) vertices))

-- the weight of the region with label r: that of the vertices that have the label
unfoldable pub weight_of : List ℕ → (ℕ → ℕ) → ℕ → ℕ → ℕ
weight_of l w vertices r = total (λ v. eqb (label_of l v) r) w vertices

-- w v is added to the bucket of vertex v
unfoldable pub pour : List ℕ → (ℕ → ℕ) → ℕ → List ℕ → List ℕ
pour l w v a = set a (label_of l v) (get_or a (label_of l v) 0 + w v)

-- every bucket is empty at first
unfoldable pub poured : List ℕ → (ℕ → ℕ) → ℕ → List ℕ → List ℕ
poured l w vertices a = iter (pour l w) vertices (mapped (λ _ _. 0) vertices a)

-- a weight is at most 1,000,000, as document 01 says, so that the weights of 64 vertices can be added
unfoldable pub weighable : List ℕ → List ℕ → ℕ → ℕ → Bool
weighable l words first vertices = labels_below l words first vertices && every (λ v. ltb (number_of words first v) 1000001) vertices

-- the regions' weights, where they can be added
unfoldable pub weighed : List ℕ → List ℕ → ℕ → ℕ → List ℕ → List ℕ
weighed l words first vertices a = pick (weighable l words first vertices) (poured l (number_of words first) vertices a) a

-- a bound, and the vertex that has it
pub record Spot : Type 0 where
  pub bound : ℕ
  pub vertex : ℕ

abbrev pub spot : ℕ → ℕ → Spot
spot b v = record { bound = b; vertex = v }

-- whether bound x is tighter than y: lower for an upper bound, greater for a lower one
unfoldable pub tighter : Bool → ℕ → ℕ → Bool
tighter upper x y = pick upper (ltb x y) (ltb y x)

-- no bound yet: the Rust's `i32::MAX` and 0; its vertex says nothing and is 0
unfoldable pub loosest : Bool → ℕ
loosest upper = pick upper 2147483647 0

-- the tightest bound of the vertices with label r, and the first vertex that has it
unfoldable pub tightest : Bool → List ℕ → (ℕ → ℕ) → ℕ → ℕ → Spot
tightest upper l b r n = iter (λ v a. pick (eqb (label_of l v) r && tighter upper (b v) a.bound) (spot (b v) v) a) n (spot (loosest upper) 0)

-- the same by name, for upper and for lower bounds
unfoldable pub least_in : (ℕ → ℕ) → (ℕ → ℕ) → ℕ → ℕ → Spot
least_in id b r n = iter (λ i a. pick (eqb (id i) r && ltb (b i) a.bound) (spot (b i) i) a) n (spot 2147483647 0)

unfoldable pub most_in : (ℕ → ℕ) → (ℕ → ℕ) → ℕ → ℕ → Spot
most_in id b r n = iter (λ i a. pick (eqb (id i) r && ltb a.bound (b i)) (spot (b i) i) a) n (spot 0 0)

-- the vertex of the spot has the bound and is of the region, and the bounds of those before it are looser
pub record Holds (upper : Bool) (l : List ℕ) (b : ℕ → ℕ) (r n : ℕ) (a : Spot) : Type 0 where
  pub known : a.vertex < n
  pub inside : label_of l a.vertex ≡ r
  pub is : b a.vertex ≡ a.bound
  pub first : (v : ℕ) → v < a.vertex → label_of l v ≡ r → tighter upper a.bound (b v) ≡ true

-- what `tightest` is: no vertex of the region has a tighter bound, and if there is one at all its vertex is the first that has it
pub record Tightest (upper : Bool) (l : List ℕ) (b : ℕ → ℕ) (r n : ℕ) (a : Spot) : Type 0 where
  pub tight : (v : ℕ) → v < n → label_of l v ≡ r → tighter upper (b v) a.bound ≡ false
  pub held : (a.bound ≡ loosest upper) ⊎ Holds upper l b r n a

-- the bounds of all regions, and the vertices that have them
pub record Marks : Type 0 where
  pub bounds : List ℕ
  pub holders : List ℕ

abbrev pub marks : List ℕ → List ℕ → Marks
marks b v = record { bounds = b; holders = v }

-- vertex v takes the place of its region's mark, if its bound is tighter
unfoldable pub claim : Bool → List ℕ → (ℕ → ℕ) → ℕ → Marks → Marks
claim upper l b v x =
    pick (tighter upper (b v) (get_or x.bounds (label_of l v) 0)) (marks (set x.bounds (label_of l v) (b v)) (set x.holders (label_of l v) v)) x

-- no region has a bound at first
unfoldable pub claimed : Bool → List ℕ → (ℕ → ℕ) → ℕ → Marks → Marks
claimed upper l b n x = iter (claim upper l b) n (marks (mapped (λ _ _. loosest upper) n x.bounds) (mapped (λ _ _. 0) n x.holders))

-- the regions' bounds, where each label is a vertex
unfoldable pub bounds_of : Bool → List ℕ → List ℕ → ℕ → ℕ → Marks → Marks
bounds_of upper l words first n x = pick (labels_below l words first n) (claimed upper l (number_of words first) n x) x
