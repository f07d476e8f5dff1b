-- The reasons that an analysis records, and their lists of literals.
use Rattle.std.specs.Prelude.{ℕ, suc, ◌+◌, pred, Bool, not, ◌&&◌, ◌||◌, List, [], ◌∷◌, ◌++◌, map, eqb, get_or}
use Rattle.base.specs.Iter.{pick}
use Rattle.base.specs.Lists.{collect}
use Rattle.sat.specs.Literal.{negate}
use Rattle.graph.specs.Search.{searched, at, edge_to}
use Rattle.graph.specs.Paths.{climb}
use Rattle.division.specs.Plan.{Plan, left, right}
use Rattle.division.specs.Regions.{within}
use Rattle.division.specs.State.{State, decided, potential}

-- the literal of a connected edge
abbrev pub connected_lit : Plan → ℕ → ℕ
connected_lit d g = negate (d.edge_lit g)

-- `reason_connected_path`: the connected edges on the way from u to v, the last one first
unfoldable pub connected_path : Plan → State → ℕ → ℕ → List ℕ
connected_path d s u v = map (connected_lit d) (climb (searched (decided d s) d.edges d.vertices u) u d.vertices v)

-- `reason_decided_region`: the connected edges by which the vertices of u's region were reached, in that order
unfoldable pub decided_region : Plan → State → ℕ → List ℕ
decided_region d s u =
    let r = searched (decided d s) d.edges d.vertices u in
    collect (λ i. connected_lit d (edge_to r (at r (suc i))) ∷ []) (pred r.count)

-- whether edge g is disconnected and leads from vertex p out of what was reached
unfoldable pub leaves : Plan → State → (ℕ → Bool) → ℕ → ℕ → Bool
leaves d s seen p g =
    eqb (get_or s.edge_state g 0) 1 && ((eqb (left d g) p && not (seen (right d g))) || (eqb (right d g) p && not (seen (left d g))))

-- `reason_potential_region`: the disconnected edges that leave what can be joined to u
unfoldable pub potential_region : Plan → State → ℕ → List ℕ
potential_region d s u =
    let seen = within d (potential d s) u in
    collect (λ p. pick (seen p) (collect (λ g. pick (leaves d s seen p g) (d.edge_lit g ∷ []) []) d.edges) []) d.vertices

-- the Rust's `Reason`: what an analysis records of a literal that it proposes; a bound's literal is a list of at most one
pub data Reason : Type 0 where
  edge_in_same_group : (g : ℕ) → Reason
  edge_between_different_groups : (h g : ℕ) (flip : Bool) → Reason
  too_large_if_regions_are_merged : (g : ℕ) (ls : List ℕ) → Reason
  region_already_large : (v : ℕ) → Reason
  region_already_small : (v : ℕ) → Reason
  -- the upper bound of a and the lower bound of b
  inconsistent_bounds_if_regions_are_merged : (g a b : ℕ) (flip : Bool) → Reason
  bound_propagation_within_region : (k u : ℕ) (ls : List ℕ) → Reason
  -- two regions with their lower and upper bound's literals, and the third one
  adjacent_same_size_regions : (a : ℕ) (la ua : List ℕ) (b : ℕ) (lb ub : List ℕ) (u : ℕ) → Reason

-- `get_reason_lits` in state s
unfoldable pub list_of : Plan → State → Reason → List ℕ
list_of d s (edge_in_same_group g) = connected_path d s (left d g) (right d g)
list_of d s (edge_between_different_groups h g flip) =
    connected_path d s (left d h) (pick flip (right d g) (left d g)) ++
    (connected_path d s (right d h) (pick flip (left d g) (right d g)) ++ (d.edge_lit h ∷ []))
list_of d s (too_large_if_regions_are_merged g ls) = decided_region d s (left d g) ++ (decided_region d s (right d g) ++ ls)
list_of d s (region_already_large v) = decided_region d s v
list_of d s (region_already_small v) = potential_region d s v
list_of d s (inconsistent_bounds_if_regions_are_merged g a b flip) =
    connected_path d s (pick flip (right d g) (left d g)) a ++
    (connected_path d s (pick flip (left d g) (right d g)) b ++ (s.upper_lit a ++ s.lower_lit b))
list_of d s (bound_propagation_within_region k u ls) = connected_path d s k u ++ ls
list_of d s (adjacent_same_size_regions a la ua b lb ub u) =
    decided_region d s a ++ (decided_region d s b ++ (decided_region d s u ++ (la ++ (ua ++ (lb ++ ub)))))
