-- Refusal 7, the buffers that a call is lent.
use Rattle.std.specs.Prelude.{Bool, ◌||◌, List, ℕ, ◌+◌, ◌-◌, ◌*◌, ltb, length, get_or}
use Rattle.base.specs.Iter.{pick}
use Rattle.base.specs.Lists.{some}
use Rattle.plan.specs.Words.{vertices_of, edges_of, variables_of, slots_of, variable_at}

-- "largest variable + 1 (0 with none)"
unfoldable pub table_len : List ℕ → ℕ
table_len ws = pick (ltb 0 (variables_of ws)) (variable_at ws (variables_of ws - 1) + 1) 0

-- "any entry of it over 4"
unfoldable pub code_bad : List ℕ → ℕ → Bool
code_bad table i = ltb 4 (get_or table i 0)

-- "table shorter than largest variable + 1 (0 with none), any entry of it over 4"
unfoldable pub table_bad : List ℕ → List ℕ → Bool
table_bad ws table = ltb (length table) (table_len ws) || some (code_bad table) (length table)

-- "list shorter than the distinct literals (both signs)"
unfoldable pub list_short : List ℕ → ℕ → Bool
list_short ws n = ltb n (2 * variables_of ws)

-- "reason buffer under gates + 2 × pens + 4"
unfoldable pub reason_short : List ℕ → ℕ → Bool
reason_short ws n = ltb n (edges_of ws + 2 * vertices_of ws + 4)

-- "log under 2 × (gates + size literals)"
unfoldable pub log_short : List ℕ → ℕ → Bool
log_short ws n = ltb n (2 * slots_of ws)
