-- The parts of a list, written one after the other.
use Rattle.std.specs.Prelude.{Bool, false, List, [], ◌∷◌, ℕ, ltb, get_or, replicate, Option, None, Some}
use Rattle.base.specs.Iter.{pick}
use Rattle.base.specs.Lists.{filled}
use Rattle.sat.specs.declared.Lit.{Lit}
use Rattle.plan.specs.Words.{vertices_of, edges_of, edge_lit_of}
use Rattle.noting.specs.Words.{lits_of, capped}
use Rattle.reasons.specs.Reason.{lits_in}
use Rattle.walks.specs.declared.Shape.{Shape}
use Rattle.walks.specs.Written.{Out, out_of}
use Rattle.walks.specs.Answers.{Answer, answer_of, given, connected_path, decided_region, potential_region}
use Rattle.lists.specs.declared.Ends.{Ends}

abbrev pub shape_of : List ℕ → Shape
shape_of ws = record { num_vertices = vertices_of ws; num_edges = edges_of ws; first_lit = 0 }

-- the literals of the plan's edges, each in its place, and 0 past the last
unfoldable pub edge_lits : List ℕ → List ℕ
edge_lits ws = filled 0 (capped (edges_of ws) 128) (edge_lit_of ws) (replicate 128 0)

abbrev pub ends_from : ℕ → ℕ → Ends
ends_from u v = record { u = u; v = v }

-- the ends of edge g of the table, the right one first with flip
unfoldable pub ends_of : List (List ℕ) → ℕ → Bool → Ends
ends_of es g flip =
    let a = get_or (get_or es g []) 0 0 in
    let b = get_or (get_or es g []) 1 0 in
    pick (ltb g 128) (pick flip (ends_from b a) (ends_from a b)) (ends_from 0 0)

-- the next part, if there is a list so far; else nothing more is written
unfoldable pub after : (Out → Answer) → Option ℕ → List ℕ → Answer
after f (Some n) t = f (out_of t n)
after f None t = answer_of None t

unfoldable pub then : Answer → (Out → Answer) → Answer
then a f = after f a.listed a.text

-- the walks of a plan's words, its edge table and the noted words
module _ (ws : List ℕ) (es : List (List ℕ)) (noted : List ℕ) where
  unfoldable pub path : Ends → Out → Answer
  path p o = connected_path es noted (edge_lits ws) (shape_of ws) p.u p.v o

  unfoldable pub decided : ℕ → Out → Answer
  decided u o = decided_region es noted (edge_lits ws) (shape_of ws) u o

  unfoldable pub potential : ℕ → Out → Answer
  potential u o = potential_region es noted (edge_lits ws) (shape_of ws) u o

  unfoldable pub two_paths : Ends → Ends → Out → Answer
  two_paths p q o = then (path p o) (path q)

  -- the path from one end of edge g to the other
  unfoldable pub inside : ℕ → Out → Answer
  inside g o = path (ends_of es g false) o

  unfoldable pub two_regions : ℕ → ℕ → Out → Answer
  two_regions u v o = then (decided u o) (decided v)

  unfoldable pub three_regions : ℕ → ℕ → ℕ → Out → Answer
  three_regions a b u o = then (two_regions a b o) (decided u)

-- one literal more
unfoldable pub and_word : ℕ → Answer → Answer
and_word x a = then a (given (x ∷ []))

-- one more, if it is one
unfoldable pub and_lit : ℕ → Answer → Answer
and_lit x a = then a (given (lits_of x))

-- one that a reason holds, if it holds one
unfoldable pub and_opt : Option Lit → Answer → Answer
and_opt l a = then a (given (lits_in l))
