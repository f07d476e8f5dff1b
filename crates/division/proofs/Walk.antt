-- What a search from a vertex takes in, and chains of one graph that are chains of another.
use Prim.Native.Nat.{ℕ, ◌<◌, ◌≤◌}
use native.Mathlib.Nat.{le_antisymm}
use mathlib.Core.Path.{◌≡◌}
use mathlib.Core.Bool.{Bool, true}
use mathlib.Core.List.{List, ◌∷◌}
use Rattle.base.specs.Lists.{Every, more}
use Rattle.graph.specs.Search.{Graph, graph, is_open, searched}
use Rattle.graph.specs.Bounds.{Fine}
use Rattle.graph.specs.Paths.{Leads, Chain, here, there, Joined, climb, Found}
use Rattle.graph.proofs.Found.{found}
use Rattle.graph.proofs.Joined.{joined_refl, joined_trans, joined_sym}
use Rattle.graph.proofs.Base.{leads_below}
use Rattle.division.specs.Plan.{Plan, Proper}
use Rattle.division.specs.Regions.{within, weight_from}
use Rattle.division.proofs.Sums.{total_le}

-- a chain of vertices
pub joined_below : {e : Graph} {edges vertices p q : ℕ} → Fine vertices edges e.ends → p < vertices → Joined e edges p q → q < vertices
joined_below {e} {edges} {vertices} {p} f h j = go j.1
  where
    go : {l : List ℕ} {q : ℕ} → Chain e edges p l q → q < vertices
    go here = h
    go (there g c l) = leads_below f l

leads_map : {es : List (List ℕ)} {s t : List ℕ} {a b : Bool} {edges g p q : ℕ} → (is_open (graph es s a) g ≡ true → is_open (graph es t b) g ≡ true) →
    Leads (graph es s a) edges g p q → Leads (graph es t b) edges g p q
leads_map h l = record { known = l.known; passed = h l.passed; ends = l.ends }

-- where each edge of the chain can be passed there too
pub chain_map : {es : List (List ℕ)} {s t : List ℕ} {a b : Bool} {edges p q : ℕ} {l : List ℕ} → Every (λ g. is_open (graph es t b) g ≡ true) l →
    Chain (graph es s a) edges p l q → Chain (graph es t b) edges p l q
chain_map e here = here
chain_map (more x e) (there g c l) = there g (chain_map e c) (leads_map (λ y. x) l)

-- where each edge that can be passed here can be passed there
pub joined_map : {es : List (List ℕ)} {s t : List ℕ} {a b : Bool} {edges p q : ℕ} →
    ((g : ℕ) → g < edges → is_open (graph es s a) g ≡ true → is_open (graph es t b) g ≡ true) → Joined (graph es s a) edges p q → Joined (graph es t b) edges p q
joined_map {es} {s} {t} {a} {b} {edges} {p} h j = go j.1
  where
    go : {l : List ℕ} {q : ℕ} → Chain (graph es s a) edges p l q → Joined (graph es t b) edges p q
    go here = joined_refl p
    go (there g c l) = let x = go c in (g ∷ x.0, there g x.1 (leads_map (h g l.known) l))

module _ (d : Plan) (k : Proper d) (es : List ℕ) (po : Bool) (u : ℕ) (h : u < d.vertices) where
  abbrev e : Graph
  e = graph d.ends es po

  pub finds : Found e d.edges d.vertices u (searched e d.edges d.vertices u)
  finds = found e d.edges d.vertices u k.fine h

  -- the marks of the search are exactly the joined vertices
  pub within_joined : (q : ℕ) → within d e u q ≡ true → Joined e d.edges u q
  unfolding within
  within_joined q t = (climb (searched e d.edges d.vertices u) u d.vertices q, finds.path q t)

  pub joined_within : (q : ℕ) → Joined e d.edges u q → within d e u q ≡ true
  unfolding within
  joined_within q j = finds.all q j.0 j.1

-- what is joined to more weighs no less
pub weight_le : (d : Plan) (k : Proper d) (s t : List ℕ) (a b : Bool) (u v : ℕ) → u < d.vertices → v < d.vertices →
    ((q : ℕ) → Joined (graph d.ends s a) d.edges u q → Joined (graph d.ends t b) d.edges v q) →
    weight_from d (graph d.ends s a) u ≤ weight_from d (graph d.ends t b) v
unfolding weight_from
weight_le d k s t a b u v hu hv f = total_le _ _ _ _ (λ i h x. joined_within d k t b v hv i (f i (within_joined d k s a u hu i x)))

-- joined vertices have one weight
pub weight_same : (d : Plan) (k : Proper d) (s : List ℕ) (a : Bool) (u v : ℕ) → u < d.vertices → Joined (graph d.ends s a) d.edges u v →
    weight_from d (graph d.ends s a) u ≡ weight_from d (graph d.ends s a) v
weight_same d k s a u v hu j =
    let hv : v < d.vertices = joined_below k.fine hu j in
    le_antisymm (weight_le d k s s a a u v hu hv (λ q x. joined_trans (joined_sym j) x)) (weight_le d k s s a a v u hv hu (λ q x. joined_trans j x))
