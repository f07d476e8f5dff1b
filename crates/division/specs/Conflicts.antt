-- The conflicts that an analysis finds, and the list that each leaves.
use Rattle.std.specs.Prelude.{ℕ, ◌+◌, List, [], ◌∷◌, ◌++◌, ltb}
use Rattle.base.specs.Iter.{pick}
use Rattle.division.specs.Plan.{Plan, left, right}
use Rattle.division.specs.State.{State}
use Rattle.division.specs.Reasons.{connected_path, decided_region, potential_region}

-- the bound literals of the vertices of a list
unfoldable pub spans : State → List ℕ → List ℕ
spans s [] = []
spans s (p ∷ ps) = s.lower_lit p ++ (s.upper_lit p ++ spans s ps)

unfoldable pub sum_lower : State → List ℕ → ℕ
sum_lower s [] = 0
sum_lower s (p ∷ ps) = s.lower p + sum_lower s ps

-- Step 3, "lower bounds of pairwise separate ranges": of a list of vertices, one after the other, those whose range begins past where the
-- last one taken ended.
unfoldable pub greedy : State → ℕ → List ℕ → List ℕ
greedy s cur [] = []
greedy s cur (p ∷ ps) = pick (ltb cur (s.lower p)) (p ∷ greedy s (s.upper p) ps) (greedy s cur ps)

-- a disconnected edge inside a region; a vertex whose bounds cross; an upper bound below the region's weight; a lower bound over the
-- potential region's weight; separate ranges that need more than it; bounds of one region that do not meet
pub data Conflict : Type 0 where
  disconnected_inside : (g : ℕ) → Conflict
  crossing : (v : ℕ) → Conflict
  over : (v : ℕ) → Conflict
  under : (v : ℕ) → Conflict
  crowded : (r : ℕ) (ps : List ℕ) → Conflict
  apart : (a b : ℕ) → Conflict

-- `inconsistency_reason`
unfoldable pub conflict_list : Plan → State → Conflict → List ℕ
conflict_list d s (disconnected_inside g) = connected_path d s (left d g) (right d g) ++ (d.edge_lit g ∷ [])
-- document 02, request 2: "a conflict listing that pen's lower literal, then its upper literal"
conflict_list d s (crossing v) = s.lower_lit v ++ s.upper_lit v
conflict_list d s (over v) = decided_region d s v ++ s.upper_lit v
conflict_list d s (under v) = potential_region d s v ++ s.lower_lit v
conflict_list d s (crowded r ps) = potential_region d s r ++ spans s ps
conflict_list d s (apart a b) = connected_path d s a b ++ (s.lower_lit a ++ s.upper_lit b)
