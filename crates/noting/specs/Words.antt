-- The noted words: what notifications change. The state of edge g stands at g, the lower bound of vertex v at 128 + v and
-- its upper bound at 192 + v, the literal that each is due to at 256 + v and 320 + v, 65535 for none. Every field is a
-- total function of its index.
use Rattle.std.specs.Prelude.{Bool, List, [], ◌∷◌, ℕ, ◌+◌, ◌-◌, eqb, ltb}
use Rattle.base.specs.Iter.{pick}
use Rattle.base.specs.Lists.{filled}
use Rattle.division.specs.Regions.{lowest}
use Rattle.division.specs.State.{State}
use Rattle.plan.specs.Words.{word, vertices_of, edges_of, domain_len_of, domain_of}

-- 0 undecided, 1 disconnected, 2 connected (document 01: shut, open)
unfoldable pub edge_state_of : List ℕ → ℕ → ℕ
edge_state_of noted g = pick (ltb g 128) (word noted g) 0

-- word `from + v`, for v below 64
unfoldable pub bound_at : ℕ → ℕ → List ℕ → ℕ → ℕ
bound_at from past noted v = pick (ltb v 64) (word noted (from + v)) past

abbrev pub lower_of : List ℕ → ℕ → ℕ
lower_of = bound_at 128 0

abbrev pub upper_of : List ℕ → ℕ → ℕ
upper_of = bound_at 192 0

abbrev pub lower_lit_of : List ℕ → ℕ → ℕ
lower_lit_of = bound_at 256 65535

abbrev pub upper_lit_of : List ℕ → ℕ → ℕ
upper_lit_of = bound_at 320 65535

-- the literal that a bound is due to: a list of at most one
unfoldable pub lits_of : ℕ → List ℕ
lits_of x = pick (eqb x 65535) [] (x ∷ [])

-- the state that noted words stand for
abbrev pub state_of : List ℕ → State
state_of noted = record {
  edge_state = noted;
  lower = lower_of noted;
  upper = upper_of noted;
  lower_lit = λ v. lits_of (lower_lit_of noted v);
  upper_lit = λ v. lits_of (upper_lit_of noted v);
}

-- n, but no more than there is room for
unfoldable pub capped : ℕ → ℕ → ℕ
capped n most = pick (ltb n most) n most

-- Document 01, "An empty domain bounds nothing: lower 0, upper 2147483647": a vertex's bounds before any notification
unfoldable pub first_size : List ℕ → ℕ → ℕ
first_size ws v = pick (ltb 0 (domain_len_of ws v)) (domain_of ws v 0) 0

unfoldable pub last_size : List ℕ → ℕ → ℕ
last_size ws v = pick (ltb 0 (domain_len_of ws v)) (domain_of ws v (domain_len_of ws v - 1)) 2147483647

-- Document 02, request 2, "the lowest pen whose bounds cross": a vertex of the plan, or how many there are, 64 at most, where none do
unfoldable pub crosses : List ℕ → ℕ → Bool
crosses noted v = ltb (upper_of noted v) (lower_of noted v)

unfoldable pub crossed_in : List ℕ → List ℕ → ℕ
crossed_in ws noted = lowest (crosses noted) (capped (vertices_of ws) 64)

-- nothing noted: no edge decided, first and last sizes, no literals. Words that the plan does not use are as they were.
unfoldable pub fresh : List ℕ → List ℕ → List ℕ
fresh ws noted =
    filled 256 (capped (vertices_of ws) 64) (λ v. 65535)
    (filled 320 (capped (vertices_of ws) 64) (λ v. 65535)
    (filled 192 (capped (vertices_of ws) 64) (last_size ws)
    (filled 128 (capped (vertices_of ws) 64) (first_size ws)
    (filled 0 (capped (edges_of ws) 128) (λ g. 0) noted))))
