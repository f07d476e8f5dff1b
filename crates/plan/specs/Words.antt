-- The plan's words: one read-only array, and what each of them stands for. Every field is a total function of its
-- indices, 0 where an index is past its limit, so that reading a plan asks for nothing.
use Rattle.std.specs.Prelude.{Bool, List, ℕ, ◌+◌, ◌*◌, ◌/◌, ◌%◌, eqb, ltb, length, get_or, replicate}
use Rattle.base.specs.Iter.{pick}
use Rattle.base.specs.Bytes.{words_in}

abbrev pub word : List ℕ → ℕ → ℕ
word ws i = get_or ws i 0

-- The words of a plan that is lent as bytes, the lowest byte of each first. Fewer bytes than a plan has hold none of
-- them: every word counts as 0.
unfoldable pub words_of : List ℕ → List ℕ
words_of b = pick (ltb (length b) 60964) (replicate 15241 0) (words_in b 0 15241)

-- word `from + i`, for i below n
unfoldable pub entry : ℕ → ℕ → List ℕ → ℕ → ℕ
entry from n ws i = pick (ltb i n) (word ws (from + i)) 0

-- word `from + 32 * v + j`, for v below 64 and j below 32
unfoldable pub cell : ℕ → List ℕ → ℕ → ℕ → ℕ
cell from ws v j = pick (ltb v 64) (pick (ltb j 32) (word ws (from + 32 * v + j)) 0) 0

-- counts and options
abbrev pub vertices_of : List ℕ → ℕ
vertices_of ws = word ws 0

abbrev pub edges_of : List ℕ → ℕ
edges_of ws = word ws 1

abbrev pub same_size_of : List ℕ → Bool
same_size_of ws = eqb (word ws 2) 1

abbrev pub extra_walls_of : List ℕ → Bool
extra_walls_of ws = eqb (word ws 3) 1

-- how many distinct variables the literals have, and how many size and edge literals there are
abbrev pub variables_of : List ℕ → ℕ
variables_of ws = word ws 4

abbrev pub slots_of : List ℕ → ℕ
slots_of ws = word ws 5

-- the mark of a plan that was built, the version of this layout; it is 0 in memory that was never built and in a refused build's words
abbrev pub mark_of : List ℕ → ℕ
mark_of ws = word ws 6

abbrev pub built_mark : ℕ
built_mark = 1

abbrev pub weight_of : List ℕ → ℕ → ℕ
weight_of = entry 8 64

abbrev pub domain_len_of : List ℕ → ℕ → ℕ
domain_len_of = entry 72 64

abbrev pub domain_of : List ℕ → ℕ → ℕ → ℕ
domain_of = cell 136

-- A slot is the place of a literal: slot 32 * v + j of size literal j of vertex v, slot 2048 + g of edge g.
abbrev pub lit_of : List ℕ → ℕ → ℕ
lit_of = entry 2184 2176

abbrev pub dom_lit_of : List ℕ → ℕ → ℕ → ℕ
dom_lit_of = cell 2184

abbrev pub edge_lit_of : List ℕ → ℕ → ℕ
edge_lit_of = entry 4232 128

-- the place of a slot's literal among the distinct literals, and the slot's place among the occurrences
abbrev pub place_of : List ℕ → ℕ → ℕ
place_of = entry 4360 2176

abbrev pub position_of : List ℕ → ℕ → ℕ
position_of = entry 6536 2176

-- the distinct variables, rising; where the occurrences of each one start; and the slots of each one, rising
abbrev pub variable_at : List ℕ → ℕ → ℕ
variable_at = entry 8712 2176

-- A start is at most 2176, as many as there are slots: on any words, no variable has more occurrences.
unfoldable pub start_at : List ℕ → ℕ → ℕ
start_at ws k = pick (ltb 2176 (entry 10888 2177 ws k)) 2176 (entry 10888 2177 ws k)

abbrev pub occurrence_at : List ℕ → ℕ → ℕ
occurrence_at = entry 13065 2176

-- the distinct literals, both signs, rising: literals 2k and 2k + 1 are those of distinct variable k
abbrev pub unique_lit_at : List ℕ → ℕ → ℕ
unique_lit_at ws p = 2 * variable_at ws (p / 2) + p % 2
