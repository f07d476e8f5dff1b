-- The examples of request 1's reading, evaluated.
use mathlib.Core.Path.{◌≡◌, refl}
use mathlib.Core.Bool.{true}
use mathlib.Core.List.{[], ◌∷◌}
use Rattle.base.specs.Iter.{pick, iter}
use Rattle.graph.specs.Search.{graph, passes}
use Rattle.division.specs.Regions.{lowest}
use Rattle.runs.specs.Run.{is_undecided}
use Rattle.runs.specs.Rounds.{nearer, stored, relaxed, relaxed_edge, round, distances}
use Rattle.runs.specs.Walk.{onward, walked, run_from, run_along, best_run}

-- of two edges between the same vertices the connected one, though the other number is lower
pub connected_first : best_run (graph ((0 ∷ 1 ∷ []) ∷ (0 ∷ 1 ∷ []) ∷ []) (0 ∷ 2 ∷ []) true) 2 2 0 1 ≡ (1 ∷ []) ∷ []
unfolding best_run run_along passes run_from lowest is_undecided onward walked nearer stored relaxed relaxed_edge round distances pick iter
connected_first = refl

-- of two undecided ones the lower number
pub lower_first : best_run (graph ((0 ∷ 1 ∷ []) ∷ (0 ∷ 1 ∷ []) ∷ []) (0 ∷ 0 ∷ []) true) 2 2 0 1 ≡ (0 ∷ []) ∷ []
unfolding best_run run_along passes run_from lowest is_undecided onward walked nearer stored relaxed relaxed_edge round distances pick iter
lower_first = refl

-- a longer run with fewer undecided edges wins
pub fewer_undecided : best_run (graph ((0 ∷ 2 ∷ []) ∷ (0 ∷ 1 ∷ []) ∷ (1 ∷ 2 ∷ []) ∷ []) (0 ∷ 2 ∷ 2 ∷ []) true) 3 3 0 2 ≡ (1 ∷ 2 ∷ []) ∷ []
unfolding best_run run_along passes run_from lowest is_undecided onward walked nearer stored relaxed relaxed_edge round distances pick iter
fewer_undecided = refl

-- a disconnected edge is not passed
pub disconnected : best_run (graph ((0 ∷ 1 ∷ []) ∷ []) (1 ∷ []) true) 1 2 0 1 ≡ []
unfolding best_run run_along passes run_from lowest is_undecided onward walked nearer stored relaxed relaxed_edge round distances pick iter
disconnected = refl

-- equal vertices: the empty run; an unknown one, equal too: none
pub at_once : best_run (graph [] [] true) 0 1 0 0 ≡ [] ∷ []
unfolding best_run run_along passes run_from lowest is_undecided onward walked nearer stored relaxed relaxed_edge round distances pick iter
at_once = refl

pub unknown : best_run (graph [] [] true) 0 1 1 1 ≡ []
unfolding best_run run_along passes run_from lowest is_undecided onward walked nearer stored relaxed relaxed_edge round distances pick iter
unknown = refl
