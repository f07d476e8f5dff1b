-- The best run as a definition that computes: from the first vertex on, each time the lowest edge that leads onward by
-- the distances from the last. That it is the best one, and missing only where there is none, is proved in
-- proofs/Given.antt.
use Rattle.std.specs.Prelude.{ℕ, zero, suc, ◌+◌, Bool, true, ◌&&◌, ◌||◌, List, [], ◌∷◌, eqb, ltb, ℤ, pos, get_or}
use Rattle.base.specs.Iter.{pick}
use Rattle.base.specs.Range.{in_range, to_nat}
use Rattle.graph.specs.Search.{Graph, graph, is_open, end_a, end_b}
use Rattle.graph.specs.Bounds.{walkable}
use Rattle.walks.specs.Written.{Out, out_of}
use Rattle.walks.specs.Answers.{Answer, given, missing}
use Rattle.division.specs.Regions.{lowest}
use Rattle.runs.specs.Run.{is_undecided}
use Rattle.runs.specs.Rounds.{Far, far_of, distances}

-- the end of edge g that is not p
abbrev pub other : Graph → ℕ → ℕ → ℕ
other e g p = pick (eqb (end_a e g) p) (end_b e g) (end_a e g)

-- vertex r is as much nearer than p as edge g is long
abbrev pub next_by : Graph → Far → ℕ → ℕ → ℕ → Bool
next_by e f p g r = f.seen r && (eqb (f.und p) (is_undecided e g + f.und r) && eqb (f.len p) (suc (f.len r)))

-- edge g is the next one of some best run from p
unfoldable pub onward : Graph → Far → ℕ → ℕ → Bool
onward e f p g = is_open e g && ((eqb (end_a e g) p || eqb (end_b e g) p) && next_by e f p g (other e g p))

-- from p on, n edges: the lowest that leads onward each time
unfoldable pub walked : Graph → ℕ → Far → ℕ → ℕ → List ℕ
walked e edges f zero p = []
walked e edges f (suc n) p =
    lowest (onward e f p) edges ∷ walked e edges f n (other e (lowest (onward e f p) edges) p)

-- how many edges the run from vertex p has, by distances w, and the run
abbrev pub length_from : List ℕ → ℕ → ℕ
length_from w p = get_or w (64 + p) 0

unfoldable pub run_from : Graph → ℕ → List ℕ → ℕ → List ℕ
run_from e edges w p = walked e edges (far_of w) (length_from w p) p

-- the run along distances w, a list of at most one: none where vertex p is not reached
unfoldable pub run_along : Graph → ℕ → List ℕ → ℕ → List (List ℕ)
run_along e edges w p = pick (eqb (get_or w (128 + p) 0) 1) (run_from e edges w p ∷ []) []

-- the best run from p to q, a list of at most one: none where one is no vertex, or they are not joined
unfoldable pub best_run : Graph → ℕ → ℕ → ℕ → ℕ → List (List ℕ)
best_run e edges vertices p q =
    pick (ltb p vertices) (pick (ltb q vertices) (run_along e edges (distances e edges vertices q) p) []) []

-- the run that is found is written; where there is none the buffer stays
unfoldable pub listed : List (List ℕ) → Out → Answer
listed [] o = missing o
listed (l ∷ ls) o = given l o

-- the best run into a buffer, on any input
unfoldable pub run_listed : List (List ℕ) → List ℕ → ℕ → ℕ → ℕ → ℕ → List ℕ → Answer
run_listed es st edges vertices p q b =
    pick (walkable es st edges vertices) (listed (best_run (graph es st true) edges vertices p q) (out_of b 0))
    (missing (out_of b 0))

-- the vertex that a number from outside is; 64, which no plan has, for one that is none
unfoldable pub vertex_given : ℤ → ℕ
vertex_given v = pick (in_range (pos 63) v) (to_nat v) 64
