-- Document 01, "True at the moment of propagation": which literals of a list stand, and when.
use Rattle.std.specs.Prelude.{ℕ, ◌≡◌, ◌⊎◌, Bool, true, false}
use mathlib.Core.List.{List, [], ◌∷◌, ◌++◌, Memᴰ}
use Rattle.base.specs.Lists.{Every}
use Rattle.sat.specs.Literal.{negate}
use Rattle.division.specs.Plan.{Plan}
use Rattle.division.specs.Reasons.{Reason, edge_in_same_group, edge_between_different_groups, too_large_if_regions_are_merged, region_already_large, region_already_small, inconsistent_bounds_if_regions_are_merged, bound_propagation_within_region, adjacent_same_size_regions}
use Rattle.division.specs.Noting.{In}
use Rattle.division.specs.Runs.{analysis}
use Rattle.calls.specs.Calls.{World, Call, initialize, propagate, Going}
use Rattle.calls.specs.Refusals.{Stands, Stage}
use Rattle.calls.specs.Table.{true_in, some_current}

-- the matching edge's literal and the bound literals that a reason holds; for an edge disconnected by step 4 the two vertices' bound literals
-- are those of the fetch
unfoldable pub recorded_in : Plan → Reason → List ℕ
recorded_in d (edge_in_same_group g) = []
recorded_in d (edge_between_different_groups h g flip) = d.edge_lit h ∷ []
recorded_in d (too_large_if_regions_are_merged g ls) = ls
recorded_in d (region_already_large v) = []
recorded_in d (region_already_small v) = []
recorded_in d (inconsistent_bounds_if_regions_are_merged g a b flip) = []
recorded_in d (bound_propagation_within_region k u ls) = ls
recorded_in d (adjacent_same_size_regions a la ua b lb ub u) = la ++ (ua ++ (lb ++ ub))

-- "literals of walked gates and those two stand when fetched": each literal of the list stands in ms, but those that the reason holds
abbrev pub Walked : Plan → List ℕ → Reason → List ℕ → Type 0
Walked d ms r list = Every (λ x. In ms x ⊎ In (recorded_in d r) x) list

-- "the matching gate's and the other bound literals stood when recorded": the reason is one that the analysis where ms stood recorded, and
-- what it holds stood there
pub record Recorded (d : Plan) (ms : List ℕ) (l : ℕ) (r : Reason) : Type 0 where
  pub proposed : Memᴰ (record { lit = l; why = r }) (analysis d ms).props
  pub stood : Every (In ms) (recorded_in d r)

-- the analyses that a call makes in world w, and what stands at each
pub data Analyzes (d : Plan) (w : World) : Call → List ℕ → Type 0 where
  of_propagate : (room : Bool) (t : List ℕ) (l : ℕ) (pending : Bool) → pending ≡ false → (Stands w l → ⊥) → Analyzes d w (propagate room t l pending) (l ∷ w.standing)
  of_initialize : (room : Bool) (t : List ℕ) (a : Going) (l : ℕ) (ls : List ℕ) → Stage d w t a (l ∷ ls) → (Stands a.world l → ⊥) → Analyzes d w (initialize room t) (l ∷ a.world.standing)
  of_last : (room : Bool) (t : List ℕ) (a : Going) → Stage d w t a [] → Analyzes d w (initialize room t) a.world.standing

-- "a false proposal's negation is true in the table": all that a conflict lists stands, but that negation. The rule that some literal is of the
-- current level is promised only where 14 tests it: of a false proposal's list.
pub data Backed (ls t : List ℕ) : List ℕ → Type 0 where
  all_stand : {list : List ℕ} → Every (In ls) list → Backed ls t list
  of_false : (list : List ℕ) (p : ℕ) → Every (In ls) list → true_in t (negate p) ≡ true → some_current t (list ++ (negate p ∷ [])) ≡ true → Backed ls t (list ++ (negate p ∷ []))
