-- What the theorems ask for.
use Rattle.std.specs.Prelude.{ℕ, ◌<◌, ◌≤◌, List, length}
use Rattle.division.specs.Plan.{Plan}
use Rattle.division.specs.Reasons.{Reason, edge_in_same_group, edge_between_different_groups, too_large_if_regions_are_merged, region_already_large, region_already_small, inconsistent_bounds_if_regions_are_merged, bound_propagation_within_region, adjacent_same_size_regions}
use Rattle.plan.specs.Proper.{ProperWords}

-- the words of a proper plan, as long as the literals of all edges need them, and noted words with the states of all edges
pub record Held (ws : List ℕ) (es : List (List ℕ)) (noted : List ℕ) : Type 0 where
  pub proper : ProperWords ws es
  pub words : 4360 ≤ length ws
  pub states : 128 ≤ length noted

-- a reason names edges and vertices of the plan
abbrev pub Within : Plan → Reason → Type 0
Within d (edge_in_same_group g) = g < d.edges
Within d (edge_between_different_groups h g flip) = (h < d.edges) × (g < d.edges)
Within d (too_large_if_regions_are_merged g ls) = g < d.edges
Within d (region_already_large v) = v < d.vertices
Within d (region_already_small v) = v < d.vertices
Within d (inconsistent_bounds_if_regions_are_merged g a b flip) = (g < d.edges) × (a < d.vertices) × (b < d.vertices)
Within d (bound_propagation_within_region k u ls) = (k < d.vertices) × (u < d.vertices)
Within d (adjacent_same_size_regions a la ua b lb ub u) = (a < d.vertices) × (b < d.vertices) × (u < d.vertices)
