-- What a state and a lent log of records are tested for before the log's words are handed on to the flat calls.
use Rattle.std.specs.Prelude.{Bool, not, ◌||◌, List, ℕ, ltb}
use Rattle.undo_log.specs.declared.Cursor.{Cursor}
use Rattle.plan.specs.Check.{plan_bad}
use Rattle.noting.specs.Buffers.{log_short}

-- the plan passes its own test, a log of `len` records is long enough, the cursor is not past it, nor past 4352, the most that the log
-- of such a plan holds
unfoldable pub reaches : List ℕ → List (List ℕ) → ℕ → Cursor → Bool
reaches ws ends len c = not (plan_bad ws ends || (log_short ws len || (ltb len c.used || ltb 4352 c.used)))
