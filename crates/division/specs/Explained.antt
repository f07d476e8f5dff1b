-- What a recorded reason claims.
use Rattle.std.specs.Prelude.{length, ℕ, suc, ◌<◌, ◌≤◌, ◌≡◌, ◌⊎◌, Bool, ◌||◌, true, List}
use Rattle.base.specs.Iter.{pick}
use Rattle.base.specs.Lists.{total}
use Rattle.sat.specs.Literal.{negate}
use Rattle.graph.specs.Search.{Graph}
use Rattle.division.specs.Plan.{Plan, left, right}
use Rattle.division.specs.Regions.{within}
use Rattle.division.specs.State.{State, decided, Same, decided_weight, potential_weight}
use Rattle.division.specs.Reasons.{connected_lit, Reason, edge_in_same_group, edge_between_different_groups}
use Rattle.division.specs.Reasons.{too_large_if_regions_are_merged, region_already_large, region_already_small}
use Rattle.division.specs.Reasons.{inconsistent_bounds_if_regions_are_merged, bound_propagation_within_region}
use Rattle.division.specs.Reasons.{adjacent_same_size_regions}
use Rattle.division.specs.Noted.{Lower, Upper}

-- the weight of two regions together
unfoldable pub merged_weight : Plan → Graph → ℕ → ℕ → ℕ
merged_weight d e u v = total (λ q. within d e u q || within d e v q) d.weight d.vertices

-- in state s the reason explains literal l
pub data Explains (d : Plan) (s : State) (l : ℕ) : Reason → Type 0 where
  by_in_group : (g : ℕ) → g < d.edges → l ≡ connected_lit d g → Same d s (left d g) (right d g) → Explains d s l (edge_in_same_group g)
  by_between : (h g : ℕ) (flip : Bool) → h < d.edges → g < d.edges → l ≡ d.edge_lit g →
      Same d s (left d h) (pick flip (right d g) (left d g)) → Same d s (right d h) (pick flip (left d g) (right d g)) →
      Explains d s l (edge_between_different_groups h g flip)
  by_too_large : (g : ℕ) (ls : List ℕ) (w b : ℕ) → g < d.edges → l ≡ d.edge_lit g → w < d.vertices →
      Same d s (left d g) w ⊎ Same d s (right d g) w → Upper d w b ls → b < merged_weight d (decided d s) (left d g) (right d g) →
      Explains d s l (too_large_if_regions_are_merged g ls)
  by_large : (v j : ℕ) → v < d.vertices → suc j < d.domain_len v → l ≡ d.dom_lit v j →
      d.domain v j < decided_weight d s v → Explains d s l (region_already_large v)
  by_small : (v j : ℕ) → v < d.vertices → suc j < d.domain_len v → l ≡ negate (d.dom_lit v j) → potential_weight d s v < d.domain v (suc j) →
      Explains d s l (region_already_small v)
  by_mismatch : (g a b : ℕ) (flip : Bool) → g < d.edges → l ≡ d.edge_lit g → a < d.vertices → b < d.vertices →
      Same d s (pick flip (right d g) (left d g)) a → Same d s (pick flip (left d g) (right d g)) b → s.upper a < s.lower b →
      Explains d s l (inconsistent_bounds_if_regions_are_merged g a b flip)
  by_spread_low : (k u : ℕ) (ls : List ℕ) (b j : ℕ) → k < d.vertices → u < d.vertices → suc j < d.domain_len u → l ≡ d.dom_lit u j →
      Same d s k u → Lower d k b ls → d.domain u j < b → Explains d s l (bound_propagation_within_region k u ls)
  by_spread_high : (k u : ℕ) (ls : List ℕ) (b j : ℕ) → k < d.vertices → u < d.vertices → suc j < d.domain_len u → l ≡ negate (d.dom_lit u j) →
      Same d s k u → Upper d k b ls → b < d.domain u (suc j) → Explains d s l (bound_propagation_within_region k u ls)
  by_same_size : (a : ℕ) (la ua : List ℕ) (b : ℕ) (lb ub : List ℕ) (u g : ℕ) →
      d.disallow_adjacent_same_size_regions ≡ true → g < d.edges → l ≡ d.edge_lit g →
      a < d.vertices → b < d.vertices → u < d.vertices →
      length la ≤ 1 → length ua ≤ 1 → length lb ≤ 1 → length ub ≤ 1 → Explains d s l (adjacent_same_size_regions a la ua b lb ub u)
