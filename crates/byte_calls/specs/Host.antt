-- The calls over bytes: each is crate graph_division's call on what the bytes stand for.
use Rattle.std.specs.Prelude.{Bool, true, false, ◌||◌, ◌≡◌, List, ℕ, ◌<◌, ltb, eqb, ℤ, pos, negsuc, neg_ℤ, length}
use Rattle.builder.specs.Input.{refusal}
use Rattle.base.specs.Iter.{pick}
use Rattle.undo_log.specs.declared.Cursor.{Cursor}
use Rattle.graph_division.specs.declared.Answer.{Answer}
use Rattle.graph_division.specs.declared.GraphDivision.{GraphDivision}
use Rattle.graph_division.specs.declared.Outcome.{Outcome}
use Rattle.graph_division.specs.Calls.{Called, propagated, undone, Fetched, reason_fetched, last_fetched, run_fetched, page_fetched}
use Rattle.graph_division.specs.Initialize.{initialized}
use Rattle.base.specs.Bytes.{word_at}
use Rattle.graph_division.specs.Answers.{is_refused}
use Rattle.byte_calls.specs.Codes.{fitted, answer_code, given_by}
use Rattle.byte_calls.specs.Layout.{state_in, cursor_in, log_in, list_in, buffer_in}
use Rattle.byte_calls.specs.Stores.{BytesKept, put_cursor, put_list, put_log}

-- a call's number, and the bytes that it was lent, but for the state's
pub record Left : Type 0 where
  pub code : ℤ
  pub table : List ℕ
  pub list : List ℕ
  pub log : List ℕ
  pub cursor : List ℕ

abbrev pub left_with : ℤ → List ℕ → List ℕ → List ℕ → List ℕ → Left
left_with r table list log cursor = record { code = r; table = table; list = list; log = log; cursor = cursor }

-- 7: a state or a cursor that is shorter than its layout
unfoldable pub too_short : List ℕ → List ℕ → Bool
too_short state cursor = ltb (length state) 133440 || ltb (length cursor) 8

abbrev pub short : ℤ
short = negsuc 6

-- what answer a, cursor d, and the lists after the call leave in the bytes: where it is refused, all is as it was
unfoldable pub left_by : Answer → Cursor → Cursor → List ℕ → List ℕ → List ℕ → List ℕ → List ℕ → List ℕ → Left
left_by a c d t lits records list log cursor =
    pick (is_refused a) (left_with (answer_code a) t list log cursor)
    (left_with (answer_code a) t (put_list lits (given_by a) list) (put_log records c.used d.used log) (put_cursor d cursor))

unfoldable pub left_of : Cursor → Called → List ℕ → List ℕ → List ℕ → Left
left_of c y list log cursor = left_by y.outcome.answer c y.outcome.cursor y.table y.list y.log list log cursor

-- `on_bytes::propagate`
unfoldable pub propagated_in : List ℕ → List ℕ → List ℕ → List ℕ → List ℕ → ℤ → ℤ → Called
propagated_in state t list log cursor lit pending = propagated (state_in state) (cursor_in cursor) lit pending t (list_in list) (log_in (cursor_in cursor) log)

unfoldable pub host_propagated : List ℕ → List ℕ → List ℕ → List ℕ → List ℕ → ℤ → ℤ → Left
host_propagated state t list log cursor lit pending =
    pick (too_short state cursor) (left_with short t list log cursor)
    (left_of (cursor_in cursor) (propagated_in state t list log cursor lit pending) list log cursor)

-- `on_bytes::initialize`
unfoldable pub initialized_in : List ℕ → List ℕ → List ℕ → List ℕ → List ℕ → Called
initialized_in state t list log cursor = initialized (state_in state) (cursor_in cursor) t (log_in (cursor_in cursor) log) (list_in list)

unfoldable pub host_initialized : List ℕ → List ℕ → List ℕ → List ℕ → List ℕ → Left
host_initialized state t list log cursor =
    pick (too_short state cursor) (left_with short t list log cursor) (left_of (cursor_in cursor) (initialized_in state t list log cursor) list log cursor)

-- `on_bytes::undo`: the number, and the cursor's bytes
pub record Back : Type 0 where
  pub code : ℤ
  pub cursor : List ℕ

abbrev pub back : ℤ → List ℕ → Back
back r cursor = record { code = r; cursor = cursor }

unfoldable pub undone_in : List ℕ → List ℕ → List ℕ → ℤ → Outcome
undone_in state log cursor lit = undone (state_in state) (cursor_in cursor) lit (log_in (cursor_in cursor) log)

unfoldable pub back_of : Answer → Cursor → List ℕ → Back
back_of a d cursor = back (answer_code a) (pick (is_refused a) cursor (put_cursor d cursor))

unfoldable pub back_by : Outcome → List ℕ → Back
back_by y cursor = back_of y.answer y.cursor cursor

unfoldable pub host_undone : List ℕ → List ℕ → List ℕ → ℤ → Back
host_undone state log cursor lit =
    pick (too_short state cursor) (back short cursor) (back_by (undone_in state log cursor lit) cursor)

-- a fetch: the number, and the buffer's bytes
unfoldable pub given_in : Fetched → List ℕ → Back
given_in y buffer = back (answer_code y.answer) (put_list y.buffer (given_by y.answer) buffer)

unfoldable pub host_reason : List ℕ → List ℕ → List ℕ → ℤ → List ℕ → Back
host_reason state log cursor lit buffer =
    pick (too_short state cursor) (back short buffer)
    (given_in (reason_fetched (state_in state) (cursor_in cursor) (log_in (cursor_in cursor) log) lit (buffer_in buffer)) buffer)

unfoldable pub host_last : List ℕ → List ℕ → List ℕ → List ℕ → Back
host_last state log cursor buffer =
    pick (too_short state cursor) (back short buffer)
    (given_in (last_fetched (state_in state) (cursor_in cursor) (log_in (cursor_in cursor) log) (buffer_in buffer)) buffer)

-- `on_bytes::run`: the number of edges, and the buffer's bytes, two for each edge's number
unfoldable pub host_run : List ℕ → List ℕ → List ℕ → ℤ → ℤ → List ℕ → Back
host_run state log cursor from to buffer =
    pick (too_short state cursor) (back short buffer)
    (given_in (run_fetched (state_in state) (cursor_in cursor) (log_in (cursor_in cursor) log) from to (buffer_in buffer))
    buffer)

-- `on_bytes::page`: the number of bytes, and the buffer with the page at its start
unfoldable pub page_back : Fetched → Back
page_back y = back (answer_code y.answer) y.buffer

unfoldable pub page_in : List ℕ → List ℕ → List ℕ → List ℕ → Back
page_in state log cursor buffer =
    page_back (page_fetched (state_in state) (cursor_in cursor) (log_in (cursor_in cursor) log) buffer)

unfoldable pub host_page : List ℕ → List ℕ → List ℕ → List ℕ → Back
host_page state log cursor buffer = pick (too_short state cursor) (back short buffer) (page_in state log cursor buffer)

-- The state's bytes after a call: as they were where it is too short or refused, else those of the outcome's state. A list last left is
-- shorter than 2 to the 32. What follows the layout stays.
pub record StateAfter (unchanged : Bool) (s : GraphDivision) (before after : List ℕ) : Type 0 where
  pub same : unchanged ≡ true → after ≡ before
  pub is : unchanged ≡ false → s.last_len < 4294967296 → state_in after ≡ s
  pub kept : BytesKept before after

abbrev pub AfterOf : Bool → Outcome → List ℕ → List ℕ → Type 0
AfterOf short y before after = StateAfter (short || is_refused y.answer) y.state before after

-- `on_bytes::build`: "Building gives the lowest number that applies", 7 for a state that is shorter than its layout the last
unfoldable pub build_code : List ℤ → ℕ → List ℤ → ℕ → List ℕ → ℤ
build_code vs n es m state = pick (eqb (refusal vs n es m) 0) (pick (ltb (length state) 133440) short (pos 0)) (neg_ℤ (pos (fitted (refusal vs n es m))))
