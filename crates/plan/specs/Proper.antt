-- What the calls rely on: the words and the edge table of a plan that passes its own test.
use Rattle.std.specs.Prelude.{◌≡◌, true, List, ℕ, suc, ◌/◌, ◌%◌, ◌<◌, ◌≤◌}
use Rattle.graph.specs.Bounds.{Fine}
use Rattle.plan.specs.Words.{word, vertices_of, edges_of, variables_of, slots_of, mark_of, built_mark, weight_of, domain_len_of, domain_of, lit_of, place_of, position_of, variable_at, start_at, occurrence_at}
use Rattle.plan.specs.Check.{used_slot, slot_count}

-- of a slot in use: its literal, the literal's place among the distinct literals, and the slot's position among the occurrences
pub record Filed (ws : List ℕ) (s : ℕ) : Type 0 where
  pub range : lit_of ws s ≤ 8191
  pub known : place_of ws s / 2 < variables_of ws
  pub variable : variable_at ws (place_of ws s / 2) ≡ lit_of ws s / 2
  pub sign : place_of ws s % 2 ≡ lit_of ws s % 2
  pub within : position_of ws s < slots_of ws
  pub there : occurrence_at ws (position_of ws s) ≡ s

-- of distinct variable k: its occurrences are slots in use, of this variable, rising
pub record Listed (ws : List ℕ) (k : ℕ) : Type 0 where
  pub range : variable_at ws k ≤ 4095
  pub some : start_at ws k < start_at ws (suc k)
  pub last : start_at ws (suc k) ≤ slots_of ws
  pub used : (i : ℕ) → start_at ws k ≤ i → i < start_at ws (suc k) → used_slot ws (occurrence_at ws i) ≡ true
  pub own : (i : ℕ) → start_at ws k ≤ i → i < start_at ws (suc k) → lit_of ws (occurrence_at ws i) / 2 ≡ variable_at ws k
  pub rising : (i : ℕ) → start_at ws k ≤ i → suc i < start_at ws (suc k) → occurrence_at ws i < occurrence_at ws (suc i)

pub record ProperWords (ws : List ℕ) (ends : List (List ℕ)) : Type 0 where
  pub fine : Fine (vertices_of ws) (edges_of ws) ends
  pub options : (word ws 2 ≤ 1) × (word ws 3 ≤ 1)
  pub mark : mark_of ws ≡ built_mark
  pub light : (v : ℕ) → v < vertices_of ws → weight_of ws v ≤ 1000000
  pub short : (v : ℕ) → v < vertices_of ws → domain_len_of ws v ≤ 32
  pub entries : (v j : ℕ) → v < vertices_of ws → j < domain_len_of ws v → domain_of ws v j ≤ 1000000
  pub rising : (v j : ℕ) → v < vertices_of ws → suc j < domain_len_of ws v → domain_of ws v j < domain_of ws v (suc j)
  pub filed : (s : ℕ) → used_slot ws s ≡ true → Filed ws s
  pub few : (variables_of ws ≤ 2176) × (slots_of ws ≤ 2176)
  pub distinct : (k : ℕ) → suc k < variables_of ws → variable_at ws k < variable_at ws (suc k)
  pub listed : (k : ℕ) → k < variables_of ws → Listed ws k
  pub first : start_at ws 0 ≡ 0
  pub end : start_at ws (variables_of ws) ≡ slots_of ws
  pub count : slots_of ws ≡ slot_count ws
