-- The plans of document 01's cases.
use Rattle.std.specs.Prelude.{Bool, false, true, ℕ, List, [], ◌∷◌, get_or, length}
use Rattle.division.specs.Plan.{Plan}

-- a plan by its numbers, lists in the order of vertices and edges
unfoldable pub plan_with : (sameSize extraWalls : Bool) (vertices edges : ℕ) (ends : List (List ℕ)) (lits weights : List ℕ)
    (domains domLits : List (List ℕ)) → Plan
plan_with sameSize extraWalls vertices edges ends lits weights domains domLits = record {
  vertices = vertices;
  edges = edges;
  ends = ends;
  edge_lit = λ g. get_or lits g 0;
  weight = λ v. get_or weights v 0;
  domain_len = λ v. length (get_or domains v []);
  domain = λ v j. get_or (get_or domains v []) j 0;
  dom_lit = λ v j. get_or (get_or domLits v []) j 0;
  disallow_adjacent_same_size_regions = sameSize;
  allow_extra_walls = extraWalls;
}

-- both options off
unfoldable pub plan : (vertices edges : ℕ) (ends : List (List ℕ)) (lits weights : List ℕ) (domains domLits : List (List ℕ)) → Plan
plan = plan_with false false

-- case G
unfoldable pub plan_g : Plan
plan_g = plan 2 1 ((0 ∷ 1 ∷ []) ∷ []) (4 ∷ []) (3 ∷ 4 ∷ []) ((3 ∷ 7 ∷ []) ∷ (4 ∷ 7 ∷ []) ∷ []) ((0 ∷ []) ∷ (2 ∷ []) ∷ [])

-- cases B, C and C2: one vertex of weight 3 with domain ds
unfoldable pub plan_b : List ℕ → Plan
plan_b ds = plan 1 0 [] [] (3 ∷ []) (ds ∷ []) []

-- cases D and D2
unfoldable pub plan_d : Plan
plan_d = plan 1 1 ((0 ∷ 0 ∷ []) ∷ []) (0 ∷ []) (1 ∷ []) [] []

-- cases E, E2 and F
unfoldable pub plan_e : Plan
plan_e = plan 2 2 ((0 ∷ 1 ∷ []) ∷ (0 ∷ 1 ∷ []) ∷ []) (0 ∷ 2 ∷ []) (1 ∷ 1 ∷ []) [] []

-- case H
unfoldable pub plan_h : Plan
plan_h = plan 2 1 ((0 ∷ 1 ∷ []) ∷ []) (0 ∷ []) (2 ∷ 3 ∷ []) ((2 ∷ []) ∷ (4 ∷ []) ∷ []) []

-- two vertices of one fixed size, each with an edge to a third one; the option that keeps such regions apart is on
unfoldable pub plan_s : List ℕ → ℕ → Plan
plan_s ws n = plan_with true false 3 2 ((2 ∷ 0 ∷ []) ∷ (2 ∷ 1 ∷ []) ∷ []) (0 ∷ 2 ∷ []) ws ((n ∷ []) ∷ (n ∷ []) ∷ []) []
