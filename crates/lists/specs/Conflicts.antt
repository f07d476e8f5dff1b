-- The list that a conflict leaves, part by part.
use Rattle.std.specs.Prelude.{ℕ, ◌<◌, ◌≡◌, Bool, false, List, [], ◌∷◌, ltb, get_or, Ok, Err}
use Rattle.base.specs.Iter.{pick}
use Rattle.base.specs.Lists.{tab}
use Rattle.division.specs.Plan.{Plan, left, right}
use Rattle.division.specs.State.{State}
use Rattle.division.specs.Conflicts.{Conflict, disconnected_inside, crossing, over, under, crowded, apart}
use Rattle.calls.specs.Look.{unjoined}
use Rattle.plan.specs.Words.{edge_lit_of}
use Rattle.noting.specs.Words.{lower_lit_of, upper_lit_of}
use Rattle.reasons.specs.declared.Stop.TheVariants.{DisconnectedInside, Over, Under, Crowded, Apart, Crossing, ZeroSize, Unfit}
use Rattle.reasons.specs.Verdicts.{Verdict}
use Rattle.walks.specs.Written.{Out}
use Rattle.walks.specs.Answers.{Answer, given, missing}
use Rattle.lists.specs.Parts.{ends_from, path, decided, potential, inside, and_word, and_lit}

-- the vertices chosen: the first count of them, 64 at most
unfoldable pub num_chosen : ℕ → ℕ
num_chosen count = pick (ltb count 64) count 64

unfoldable pub chosen_of : List ℕ → ℕ → List ℕ
chosen_of chosen count = tab (λ i. get_or chosen i 0) (num_chosen count)

-- the bound literals of a vertex, and of the vertices of a list
unfoldable pub span_after : List ℕ → ℕ → Answer → Answer
span_after noted v a = and_lit (upper_lit_of noted v) (and_lit (lower_lit_of noted v) a)

unfoldable pub spans_after : List ℕ → List ℕ → Answer → Answer
spans_after noted [] a = a
spans_after noted (p ∷ ps) a = spans_after noted ps (span_after noted p a)

-- document 02, request 2: "that pen's lower literal, then its upper literal"
unfoldable pub crossing_lits : List ℕ → ℕ → Out → Answer
crossing_lits noted v o = span_after noted v (given [] o)

module _ (ws : List ℕ) (es : List (List ℕ)) (noted : List ℕ) where
  unfoldable pub apart_lits : ℕ → ℕ → Out → Answer
  apart_lits a b o = and_lit (upper_lit_of noted b) (and_lit (lower_lit_of noted a) (path ws es noted (ends_from a b) o))

  -- `inconsistency_reason`; what is no conflict has no list
  unfoldable pub conflict_lits : Verdict → List ℕ → Out → Answer
  conflict_lits (Ok u) ps o = missing o
  conflict_lits (Err (DisconnectedInside g)) ps o = and_word (edge_lit_of ws g) (inside ws es noted g o)
  conflict_lits (Err (Over v)) ps o = and_lit (upper_lit_of noted v) (decided ws es noted v o)
  conflict_lits (Err (Under v)) ps o = and_lit (lower_lit_of noted v) (potential ws es noted v o)
  conflict_lits (Err (Crowded r)) ps o = spans_after noted ps (potential ws es noted r o)
  conflict_lits (Err (Apart a b)) ps o = apart_lits a b o
  conflict_lits (Err (Crossing v)) ps o = crossing_lits noted v o
  conflict_lits (Err ZeroSize) ps o = missing o
  conflict_lits (Err Unfit) ps o = missing o

-- the conflict that is meant, none for a verdict that is none; ps are the vertices chosen
unfoldable pub conflicts_of : Verdict → List ℕ → List Conflict
conflicts_of (Ok u) ps = []
conflicts_of (Err (DisconnectedInside g)) ps = disconnected_inside g ∷ []
conflicts_of (Err (Over v)) ps = over v ∷ []
conflicts_of (Err (Under v)) ps = under v ∷ []
conflicts_of (Err (Crowded r)) ps = crowded r ps ∷ []
conflicts_of (Err (Apart a b)) ps = apart a b ∷ []
conflicts_of (Err (Crossing v)) ps = crossing v ∷ []
conflicts_of (Err ZeroSize) ps = []
conflicts_of (Err Unfit) ps = []

-- ps are the vertices of a conflict's separate ranges, if it has any
abbrev pub Chosen : Conflict → List ℕ → Type 0
Chosen (disconnected_inside g) ps = Unit {0}
Chosen (crossing v) ps = Unit {0}
Chosen (over v) ps = Unit {0}
Chosen (under v) ps = Unit {0}
Chosen (crowded r qs) ps = ps ≡ qs
Chosen (apart a b) ps = Unit {0}

-- a conflict names edges and vertices of the plan
abbrev pub ConflictWithin : Plan → Conflict → Type 0
ConflictWithin d (disconnected_inside g) = g < d.edges
ConflictWithin d (crossing v) = v < d.vertices
ConflictWithin d (over v) = v < d.vertices
ConflictWithin d (under v) = v < d.vertices
ConflictWithin d (crowded r ps) = r < d.vertices
ConflictWithin d (apart a b) = (a < d.vertices) × (b < d.vertices)

-- a path that the conflict walks is gone
unfoldable pub path_gone : Plan → State → Conflict → Bool
path_gone d s (disconnected_inside g) = unjoined d s (left d g) (right d g)
path_gone d s (crossing v) = false
path_gone d s (over v) = false
path_gone d s (under v) = false
path_gone d s (crowded r ps) = false
path_gone d s (apart a b) = unjoined d s a b
