-- The plan's own test: whether words and an edge table are a plan that the calls can work on. Each line is what would be wrong.
use Rattle.std.specs.Prelude.{Bool, not, ◌&&◌, ◌||◌, List, [], ℕ, pred, ◌+◌, ◌-◌, ◌*◌, ◌/◌, ◌%◌, ◌<◌, ◌≤◌, eqb, ltb, leb, get_or}
use Rattle.base.specs.Iter.{iter, pick}
use Rattle.base.specs.Lists.{some}
use Rattle.plan.specs.Words.{word, vertices_of, edges_of, variables_of, slots_of, mark_of, built_mark, weight_of, domain_len_of, domain_of, lit_of, place_of, position_of, variable_at, start_at, occurrence_at}

-- more of something than there is room for, an option that is neither off nor on, or no mark of a plan that was built
unfoldable pub counts_bad : List ℕ → Bool
counts_bad ws =
    ltb 64 (vertices_of ws)
    || (ltb 128 (edges_of ws)
    || (ltb 2176 (variables_of ws)
    || (ltb 2176 (slots_of ws)
    || (ltb 1 (word ws 2)
    || (ltb 1 (word ws 3)
    || not (eqb (mark_of ws) built_mark))))))

-- a slot that holds a literal: of a size literal of a vertex, or of an edge
unfoldable pub used_slot : List ℕ → ℕ → Bool
used_slot ws s = pick (ltb s 2048) (ltb (s / 32) (vertices_of ws) && ltb (s % 32 + 1) (domain_len_of ws (s / 32))) (ltb (s - 2048) (edges_of ws))

-- a size is out of range, or not over the one before it
unfoldable pub entry_bad : List ℕ → ℕ → ℕ → Bool
entry_bad ws v j = ltb 1000000 (domain_of ws v j) || (ltb 0 j && leb (domain_of ws v j) (domain_of ws v (j - 1)))

unfoldable pub vertex_bad : List ℕ → ℕ → Bool
vertex_bad ws v =
    ltb 1000000 (weight_of ws v)
    || (ltb 32 (domain_len_of ws v)
    || some (entry_bad ws v) (domain_len_of ws v))

unfoldable pub edge_bad : List ℕ → List (List ℕ) → ℕ → Bool
edge_bad ws ends g =
    leb (vertices_of ws) (get_or (get_or ends g []) 0 0) || leb (vertices_of ws) (get_or (get_or ends g []) 1 0)

-- an occurrence of variable k is no slot in use, is another variable's, its slot's place names another literal or its slot's position
-- another occurrence, or it is not over the one before it. There are as many occurrences as slots in use (starts_bad), so that each slot
-- in use is met.
unfoldable pub occurrence_bad : List ℕ → ℕ → ℕ → Bool
occurrence_bad ws k i =
    not (used_slot ws (occurrence_at ws i))
    || (not (eqb (lit_of ws (occurrence_at ws i) / 2) (variable_at ws k))
    || (not (eqb (place_of ws (occurrence_at ws i)) (2 * k + lit_of ws (occurrence_at ws i) % 2))
    || (not (eqb (position_of ws (occurrence_at ws i)) i)
    || (ltb (start_at ws k) i && leb (occurrence_at ws i) (occurrence_at ws (i - 1))))))

-- a variable is out of range or not over the one before it
unfoldable pub variable_order_bad : List ℕ → ℕ → Bool
variable_order_bad ws k = ltb 4095 (variable_at ws k) || (ltb 0 k && leb (variable_at ws k) (variable_at ws (k - 1)))

-- or it has no occurrence, or one past the last, or one that is bad
unfoldable pub variable_bad : List ℕ → ℕ → Bool
variable_bad ws k =
    variable_order_bad ws k
    || (leb (start_at ws (k + 1)) (start_at ws k)
    || (ltb (slots_of ws) (start_at ws (k + 1))
    || some (λ i. occurrence_bad ws k (start_at ws k + i)) (start_at ws (k + 1) - start_at ws k)))

-- how many slots are in use: a domain of k sizes has k - 1 literals, an edge has one
unfoldable pub slot_count : List ℕ → ℕ
slot_count ws = iter (λ v n. n + pred (domain_len_of ws v)) (vertices_of ws) (edges_of ws)

-- the occurrences do not run from the first place to the last
unfoldable pub starts_bad : List ℕ → Bool
starts_bad ws = not (eqb (start_at ws 0) 0) || (not (eqb (start_at ws (variables_of ws)) (slots_of ws)) || not (eqb (slot_count ws) (slots_of ws)))

unfoldable pub plan_bad : List ℕ → List (List ℕ) → Bool
plan_bad ws ends =
    counts_bad ws
    || (some (vertex_bad ws) (vertices_of ws)
    || (some (edge_bad ws ends) (edges_of ws)
    || (some (variable_bad ws) (variables_of ws)
    || starts_bad ws)))

-- some variable is out of range. Of its own, because initialise saves the table's entries of variables in range alone.
unfoldable pub variable_high : List ℕ → ℕ → Bool
variable_high ws k = ltb 4095 (variable_at ws k)

unfoldable pub variables_high : List ℕ → Bool
variables_high ws = some (variable_high ws) (variables_of ws)

-- what the first test leaves: the counts are within their limits
pub record Counts (ws : List ℕ) : Type 0 where
  pub vertices : vertices_of ws ≤ 64
  pub edges : edges_of ws ≤ 128
  pub variables : variables_of ws ≤ 2176
  pub slots : slots_of ws ≤ 2176
  pub domains : (v : ℕ) → v < vertices_of ws → domain_len_of ws v ≤ 32
