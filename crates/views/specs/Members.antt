-- Document 01, analysis, step 4: "Bounds inside one region must meet". The two vertices that a conflict names, as `meets` chooses them.
use Rattle.std.specs.Prelude.{Bool, true, false, List, ℕ, ltb}
use Rattle.base.specs.Iter.{pick}
use Rattle.graph.specs.Bounds.{walkable}
use Rattle.division.specs.State.{State, decided}
use Rattle.division.specs.Views.{members_of}
use Rattle.division.specs.Analysis.{best}
use Rattle.plan.specs.Words.{vertices_of, edges_of}
use Rattle.plan.specs.Plan.{plan_of}
use Rattle.noting.specs.Words.{state_of}
use Rattle.views.specs.declared.members.Extremes.{Extremes}

-- whether the region can be walked from this vertex
unfoldable pub reaches : List ℕ → List (List ℕ) → List ℕ → ℕ → Bool
reaches ws es noted region = pick (walkable es noted (edges_of ws) (vertices_of ws)) (ltb region (vertices_of ws)) false

-- the vertices of its decided region, in the order of the search from it
abbrev pub members_from : List ℕ → List (List ℕ) → List ℕ → ℕ → List ℕ
members_from ws es noted region = members_of (plan_of ws es) (decided (plan_of ws es) (state_of noted)) region

-- whether c has a greater lower bound than b, a lesser upper bound
abbrev pub higher : State → ℕ → ℕ → Bool
higher s c b = ltb (s.lower b) (s.lower c)

abbrev pub lesser : State → ℕ → ℕ → Bool
lesser s c b = ltb (s.upper c) (s.upper b)

unfoldable pub extremes : List ℕ → List (List ℕ) → List ℕ → ℕ → Extremes
extremes ws es noted region =
    pick (reaches ws es noted region)
    (record {
      found = true;
      lower_bound_idx = best (higher (state_of noted)) region (members_from ws es noted region);
      upper_bound_idx = best (lesser (state_of noted)) region (members_from ws es noted region);
    })
    (record { found = false; lower_bound_idx = 0; upper_bound_idx = 0 })
