-- The logs that noting gives: notifications of known literals one after another, no two of one variable.
use Rattle.std.specs.Prelude.{◌≡◌, true, false, List, [], ◌∷◌, ℕ, ◌+◌, ◌/◌, get_or, replicate}
use Rattle.undo_log.specs.Log.{word_of}
use Rattle.noting.specs.Words.{fresh}
use Rattle.noting.specs.Note.{boundary, place_in, known}
use Rattle.noting.specs.Standing.{has_variable}
use Rattle.noting.specs.Replay.{followed, place, follow_at}

-- Noting the literals afresh, the newest first in the list, gives the log's first words, as many as the number says, and
-- the noted words.
pub data Logged (ws log : List ℕ) : List ℕ → ℕ → List ℕ → Type 0 where
  none : Logged ws log [] 0 (fresh ws (replicate 384 0))
  one : {ls : List ℕ} {at : ℕ} {noted : List ℕ} {l to : ℕ} {after : List ℕ} → Logged ws log ls at noted →
      known ws (l / 2) ≡ true → has_variable (l / 2) ls ≡ false → get_or log at 0 ≡ word_of (boundary l) →
      follow_at ws log to l (place_in ws (l / 2)) (followed noted (place true (at + 1))) ≡ followed after (place true to) →
      Logged ws log (l ∷ ls) to after
