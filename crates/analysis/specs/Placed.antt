-- The steps of the analysis on words: the definition of crate division, with each literal named by its place among the
-- distinct literals, so that a proposal is stored where its literal stands. Places rise with literals, and 2k and 2k + 1 are
-- the two signs of distinct variable k, as 2v and 2v + 1 are of variable v.
use Rattle.std.specs.Prelude.{◌≡◌, ◌&&◌, List, ℕ, ◌+◌, ◌*◌, ◌/◌, ◌%◌, eqb, ltb}
use Rattle.base.specs.Iter.{pick}
use Rattle.division.specs.Plan.{Plan}
use Rattle.division.specs.State.{State}
use Rattle.division.specs.Analysis.{View, Out}
use Rattle.plan.specs.Words.{vertices_of, edges_of, same_size_of, extra_walls_of, weight_of, domain_len_of, domain_of, edge_lit_of, dom_lit_of, place_of, unique_lit_at, variables_of}
use Rattle.noting.specs.Words.{state_of}
use Rattle.noting.specs.Note.{place_in}
use Rattle.reasons.specs.Verdicts.{Verdict, ran, ran_of}
use Rattle.views.specs.Words.{shown}

-- the place of literal l among the distinct literals, found from its variable's; within 32 bits on any plan
unfoldable pub place_of_lit : List ℕ → ℕ → ℕ
place_of_lit ws l = 2 * (place_in ws (l / 2) % 2147483648) + l % 2

-- the same, where p may be it already
unfoldable pub place_for : List ℕ → ℕ → ℕ → ℕ
place_for ws p l = pick (ltb (p / 2) (variables_of ws) && eqb (unique_lit_at ws p) l) p (place_of_lit ws l)

-- the places of an edge's literal and of size literal j of vertex v: those that the plan's index has for their slots
unfoldable pub edge_place_of : List ℕ → ℕ → ℕ
edge_place_of ws g = place_for ws (pick (ltb g 128) (place_of ws (2048 + g)) 0) (edge_lit_of ws g)

unfoldable pub dom_place_of : List ℕ → ℕ → ℕ → ℕ
dom_place_of ws v j = place_for ws (pick (ltb v 64 && ltb j 32) (place_of ws (32 * v + j)) 0) (dom_lit_of ws v j)

-- the plan that the words and the edge table stand for, with places for literals
abbrev pub placed : List ℕ → List (List ℕ) → Plan
placed ws ends = record {
  vertices = vertices_of ws;
  edges = edges_of ws;
  ends = ends;
  edge_lit = edge_place_of ws;
  weight = weight_of ws;
  domain_len = domain_len_of ws;
  domain = domain_of ws;
  dom_lit = dom_place_of ws;
  disallow_adjacent_same_size_regions = same_size_of ws;
  allow_extra_walls = extra_walls_of ws;
}

-- the words that an analysis reads
pub record Words : Type 0 where
  pub plan : List ℕ
  pub ends : List (List ℕ)
  pub noted : List ℕ
  pub view : List ℕ

abbrev pub words : List ℕ → List (List ℕ) → List ℕ → List ℕ → Words
words plan ends noted view = record { plan = plan; ends = ends; noted = noted; view = view }

abbrev pub plan_in : Words → Plan
plan_in x = placed x.plan x.ends

abbrev pub view_in : Words → View
view_in x = shown (plan_in x) (state_of x.noted) x.view

-- a definition of division's analysis, on words
abbrev pub on : {A : Type 0} → (Plan → State → View → A) → Words → A
on f x = f (plan_in x) (state_of x.noted) (view_in x)

-- a pass that stores nothing leaves verdict r where the definition leaves o
abbrev pub Finds : Verdict → Out → Type 0
Finds r o = (a : List ℕ) → ran r a ≡ ran_of o a
