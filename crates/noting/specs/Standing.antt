-- Document 01, "A literal stands from its notification, noted ones included, until undone; a call reads this from the log
-- up to the cursor."
use Rattle.std.specs.Prelude.{Bool, true, false, not, ◌||◌, ◌≡◌, List, [], ◌∷◌, ℕ, ◌/◌, eqb}
use Rattle.base.specs.Iter.{pick}
use Rattle.undo_log.specs.declared.Record.{Record}
use Rattle.noting.specs.Note.{Noting, known}
use Rattle.noting.specs.Undo.{records_of}

-- the literals of the notifications' first records, the newest first
unfoldable pub standing : List Record → List ℕ
standing [] = []
standing (r ∷ rs) = pick (eqb r.kind 0) (r.lit ∷ standing rs) (standing rs)

-- of what is noted, the standing literals, the newest first
abbrev pub standing_of : Noting → List ℕ
standing_of x = standing (records_of x.log x.cursor.used)

-- Refusal 10, "literal to be notified, or its negation, stands": whether a literal of variable x is in a list
unfoldable pub has_variable : ℕ → List ℕ → Bool
has_variable x [] = false
has_variable x (l ∷ ls) = eqb (l / 2) x || has_variable x ls

-- the newest standing literal, 65535 where none stands
unfoldable pub newest : List ℕ → ℕ
newest [] = 65535
newest (l ∷ ls) = l

-- Refusal 11, "undo not of the newest standing"
unfoldable pub not_newest : ℕ → List ℕ → Bool
not_newest l ls = not (eqb (newest ls) l)

-- no two literals of one variable
pub data OneEach : List ℕ → Type 0 where
  none : OneEach []
  one : {l : ℕ} {ls : List ℕ} → has_variable (l / 2) ls ≡ false → OneEach ls → OneEach (l ∷ ls)

-- each literal is the plan's
pub data AllKnown (ws : List ℕ) : List ℕ → Type 0 where
  none : AllKnown ws []
  one : {l : ℕ} {ls : List ℕ} → known ws (l / 2) ≡ true → AllKnown ws ls → AllKnown ws (l ∷ ls)
