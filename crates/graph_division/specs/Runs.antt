-- Any list of calls on a propagator's state, refused ones included: each is lent a table, a list, a reason buffer or a
-- page buffer, and a log of its own, of any length and content, but for the log's part up to the cursor, which is what
-- the calls before it left.
use Rattle.std.specs.Prelude.{Bool, false, not, ◌||◌, List, [], ◌∷◌, ◌++◌, ℕ, ℤ, pos, length, take}
use Rattle.base.specs.Range.{in_range}
use Rattle.undo_log.specs.declared.Cursor.{Cursor}
use Rattle.noting.specs.Buffers.{log_short, list_short, reason_short}
use Rattle.runs.specs.Walk.{vertex_given}
use Rattle.refusals.specs.Calls.{lit_given}
use Rattle.calls.specs.Calls as calls
use Rattle.graph_division.specs.declared.GraphDivision.{GraphDivision}
use Rattle.graph_division.specs.declared.Outcome.{Outcome}
use Rattle.graph_division.specs.declared.Answer.{Answer}
use Rattle.graph_division.specs.Calls.{Called, propagated, undone, Fetched, reason_fetched, last_fetched, run_fetched, page_fetched}
use Rattle.graph_division.specs.Initialize.{initialized}

-- what a call that changes nothing asks for, with numbers from outside
pub data Query : Type 0 where
  reason_for : (lit : ℤ) → Query
  last_left : Query
  run_between : (from to : ℤ) → Query
  page : Query

-- a call with what it is lent; of the log, the entries from the cursor on
pub data Request : Type 0 where
  initialize : (table list tail : List ℕ) → Request
  propagate : (lit pending : ℤ) (table list tail : List ℕ) → Request
  undo : (lit : ℤ) (tail : List ℕ) → Request
  ask : (q : Query) (buffer tail : List ℕ) → Request

-- the table that is lent; a call that is lent none has the empty one
unfoldable pub table_of : Request → List ℕ
table_of (initialize t list tail) = t
table_of (propagate lit pending t list tail) = t
table_of (undo lit tail) = []
table_of (ask q b tail) = []

-- the list, the reason buffer or the page buffer
unfoldable pub lent_list : Request → List ℕ
lent_list (initialize t list tail) = list
lent_list (propagate lit pending t list tail) = list
lent_list (undo lit tail) = []
lent_list (ask q b tail) = b

unfoldable pub tail_of : Request → List ℕ
tail_of (initialize t list tail) = tail
tail_of (propagate lit pending t list tail) = tail
tail_of (undo lit tail) = tail
tail_of (ask q b tail) = tail

-- what is kept from call to call: the state, the cursor, and the log up to it
pub record Kept : Type 0 where
  pub state : GraphDivision
  pub cursor : Cursor
  pub records : List ℕ

abbrev pub kept : GraphDivision → Cursor → List ℕ → Kept
kept s c records = record { state = s; cursor = c; records = records }

-- the log that a call is lent
abbrev pub log_for : Kept → List ℕ → List ℕ
log_for k tail = k.records ++ tail

-- what a call answers, and what the state, the cursor and all that it was lent hold then
pub record Reply : Type 0 where
  pub answer : Answer
  pub state : GraphDivision
  pub cursor : Cursor
  pub table : List ℕ
  pub list : List ℕ
  pub log : List ℕ

unfoldable pub replied : Outcome → List ℕ → List ℕ → List ℕ → Reply
replied y t list log = record { answer = y.answer; state = y.state; cursor = y.cursor; table = t; list = list; log = log }

unfoldable pub replied_called : Called → Reply
replied_called x = replied x.outcome x.table x.list x.log

-- a query leaves the state, the cursor and the log
unfoldable pub replied_fetched : Kept → List ℕ → Fetched → Reply
replied_fetched k log x = record { answer = x.answer; state = k.state; cursor = k.cursor; table = []; list = x.buffer; log = log }

-- a query's answer and its buffer: `calc_reason` of a literal, and without one, `run` and `page`
unfoldable pub asked : GraphDivision → Cursor → List ℕ → Query → List ℕ → Fetched
asked s c log (reason_for lit) b = reason_fetched s c log lit b
asked s c log last_left b = last_fetched s c log b
asked s c log (run_between from to) b = run_fetched s c log from to b
asked s c log page b = page_fetched s c log b

unfoldable pub reply : Kept → Request → Reply
reply k (initialize t list tail) = replied_called (initialized k.state k.cursor t (log_for k tail) list)
reply k (propagate lit pending t list tail) = replied_called (propagated k.state k.cursor lit pending t list (log_for k tail))
reply k (undo lit tail) = replied (undone k.state k.cursor lit (log_for k tail)) [] [] (log_for k tail)
reply k (ask q b tail) = replied_fetched k (log_for k tail) (asked k.state k.cursor (log_for k tail) q b)

unfoldable pub keeping : Reply → Kept
keeping r = kept r.state r.cursor (take r.cursor.used r.log)

unfoldable pub after : Kept → List Request → Kept
after k [] = k
after k (q ∷ qs) = after (keeping (reply k q)) qs

-- the definition's query, and what refusal 7 asks of its buffer, of length n, where the plan's words are ws
unfoldable pub query_of : Query → ℕ → calls.Query
query_of (reason_for lit) n = calls.reason_for (lit_given lit)
query_of last_left n = calls.last_left
query_of (run_between from to) n = calls.run_between (vertex_given from) (vertex_given to)
query_of page n = calls.page n

unfoldable pub buffer_short : Query → List ℕ → ℕ → Bool
buffer_short (reason_for lit) ws n = reason_short ws n
buffer_short last_left ws n = reason_short ws n
buffer_short (run_between from to) ws n = reason_short ws n
buffer_short page ws n = false

-- the definition's call for a request: what refusal 7 asks of the lengths of what is lent, but for the table, is the room
unfoldable pub room_for : List ℕ → ℕ → Bool → Bool
room_for ws n short = not (log_short ws n || short)

unfoldable pub call_of : Kept → Request → calls.Call
call_of k (initialize t list tail) = calls.initialize (room_for k.state.plan (length (log_for k tail)) (list_short k.state.plan (length list))) t
call_of k (propagate lit pending t list tail) = calls.propagate (room_for k.state.plan (length (log_for k tail)) (list_short k.state.plan (length list))) t (lit_given lit) (not (in_range (pos 0) pending))
call_of k (undo lit tail) = calls.undo (not (log_short k.state.plan (length (log_for k tail)))) (lit_given lit)
call_of k (ask q b tail) = calls.ask (room_for k.state.plan (length (log_for k tail)) (buffer_short q k.state.plan (length b))) (query_of q (length b))

unfoldable pub calls_of : Kept → List Request → List calls.Call
calls_of k [] = []
calls_of k (q ∷ qs) = call_of k q ∷ calls_of (keeping (reply k q)) qs
