-- Document 01, "A call tests 7 to 11 in that order, then works": what each call tests before it works. The answer is the
-- number of the refusal, 0 where none applies.
use Rattle.std.specs.Prelude.{Bool, not, ◌&&◌, ◌||◌, List, ℕ, ◌/◌, ℤ, pos, length}
use Rattle.base.specs.Iter.{pick}
use Rattle.base.specs.Range.{in_range, to_nat}
use Rattle.undo_log.specs.declared.Cursor.{Cursor}
use Rattle.plan.specs.Check.{counts_bad, variables_high}
use Rattle.noting.specs.Note.{known}
use Rattle.noting.specs.Undo.{records_of}
use Rattle.noting.specs.Standing.{standing, has_variable, not_newest}
use Rattle.noting.specs.Replay.{log_bad}
use Rattle.noting.specs.Buffers.{table_bad, list_short, reason_short, log_short}

-- 7 of every call: the plan's counts are over their limits or it was never built, the log is too short, or log, cursor and noted
-- words are none that noting gives. The rest of the plan's own test is a call of its own.
unfoldable pub state_bad : List ℕ → List (List ℕ) → List ℕ → List ℕ → Cursor → Bool
state_bad ws ends noted log c = counts_bad ws || (log_short ws (length log) || log_bad ws noted log c)

-- 7 of a call that is lent a table and a list, the list's length n
unfoldable pub table_state_bad : List ℕ → List (List ℕ) → List ℕ → List ℕ → ℕ → List ℕ → Cursor → Bool
table_state_bad ws ends noted t n log c = state_bad ws ends noted log c || (list_short ws n || table_bad ws t)

-- the number of a literal from outside, 0 for one that is none
unfoldable pub lit_number : ℤ → ℕ
lit_number l = pick (in_range (pos 8191) l) (to_nat l) 0

-- 9: no literal, or one whose variable is not the plan's
unfoldable pub unknown_lit : List ℕ → ℤ → Bool
unknown_lit ws l = not (in_range (pos 8191) l && known ws (lit_number l / 2))

unfoldable pub literal_refusal : List ℕ → ℤ → ℕ
literal_refusal ws l = pick (unknown_lit ws l) 9 0

-- Initialise takes back what it did to the table's entries of variables in range: 7 where the words have another variable.
unfoldable pub initialize_refusal : List ℕ → List (List ℕ) → List ℕ → List ℕ → ℕ → List ℕ → Cursor → Bool → ℕ
initialize_refusal ws ends noted t n log c initialized =
    pick (table_state_bad ws ends noted t n log c) 7
    (pick (variables_high ws) 7
    (pick initialized 8 0))

unfoldable pub propagate_refusal : List ℕ → List (List ℕ) → List ℕ → List ℕ → ℕ → List ℕ → Cursor → ℤ → ℕ
propagate_refusal ws ends noted t n log c l =
    pick (table_state_bad ws ends noted t n log c) 7
    (pick (unknown_lit ws l) 9
    (pick (has_variable (lit_number l / 2) (standing (records_of log c.used))) 10 0))

unfoldable pub undo_refusal : List ℕ → List (List ℕ) → List ℕ → List ℕ → Cursor → ℤ → ℕ
undo_refusal ws ends noted log c l =
    pick (state_bad ws ends noted log c) 7
    (pick (unknown_lit ws l) 9
    (pick (not_newest (lit_number l) (standing (records_of log c.used))) 11 0))

-- the reason buffer's length is n
unfoldable pub fetch_refusal : List ℕ → List (List ℕ) → List ℕ → ℕ → List ℕ → Cursor → ℕ
fetch_refusal ws ends noted n log c = pick (state_bad ws ends noted log c || reason_short ws n) 7 0
