-- Refusal 7, "log, cursor, gates and bounds other than noting the log's literals afresh, oldest first, would give", as document 01 words it.
use Rattle.std.specs.Prelude.{◌≡◌, true, false, List, [], ◌∷◌, ℕ, ◌/◌, ◌<◌, ◌≤◌, length, replicate}
use Rattle.undo_log.specs.declared.Cursor.{Cursor}
use Rattle.plan.specs.Words.{vertices_of, edges_of}
use Rattle.noting.specs.Words.{edge_state_of, lower_of, upper_of, lower_lit_of, upper_lit_of, fresh}
use Rattle.noting.specs.Note.{Noting, noting, known, note}
use Rattle.noting.specs.Undo.{records_of}
use Rattle.noting.specs.Standing.{standing, has_variable}

-- "the log's literals": those of the notifications' first records up to the cursor, the newest first
abbrev pub literals_in : List ℕ → Cursor → List ℕ
literals_in log c = standing (records_of log c.used)

-- literals, the newest first in the list, noted one after the other, "oldest first", in this log: from nothing noted and a cursor of zeros on
unfoldable pub noted_afresh : List ℕ → List ℕ → List ℕ → Noting
noted_afresh ws log [] = noting (fresh ws (replicate 384 0)) log (record { used = 0; standing = 0 })
noted_afresh ws log (l ∷ ls) = note ws l (noted_afresh ws log ls)

-- each could be notified: it is known to the plan, and neither it nor its negation is among the older ones (9 and 10)
pub data Notable (ws : List ℕ) : List ℕ → Type 0 where
  none : Notable ws []
  one : {l : ℕ} {ls : List ℕ} → known ws (l / 2) ≡ true → has_variable (l / 2) ls ≡ false → Notable ws ls → Notable ws (l ∷ ls)

-- the plan's gates and its pens' bounds, and the literals that these are due to, are noted alike
pub record SameNoted (ws a b : List ℕ) : Type 0 where
  pub edges : (g : ℕ) → g < edges_of ws → edge_state_of a g ≡ edge_state_of b g
  pub lower : (v : ℕ) → v < vertices_of ws → lower_of a v ≡ lower_of b v
  pub upper : (v : ℕ) → v < vertices_of ws → upper_of a v ≡ upper_of b v
  pub lower_lit : (v : ℕ) → v < vertices_of ws → lower_lit_of a v ≡ lower_lit_of b v
  pub upper_lit : (v : ℕ) → v < vertices_of ws → upper_lit_of a v ≡ upper_lit_of b v

-- log, cursor, gates and bounds are what noting literals ls gives: pushing their records changes nothing in this log
pub record AsNoted (ws noted log : List ℕ) (c : Cursor) (ls : List ℕ) : Type 0 where
  pub notable : Notable ws ls
  -- the cursor is not "past the log"
  pub fits : c.used ≤ length log
  pub same_log : (noted_afresh ws log ls).log ≡ log
  pub same_cursor : (noted_afresh ws log ls).cursor ≡ c
  pub same_noted : SameNoted ws (noted_afresh ws log ls).noted noted
