-- The state, log and cursor that a world of crate calls stands for, and what a call on the one has to do with the call on the other.
use Rattle.std.specs.Prelude.{◌≡◌, List, [], ℕ, ◌+◌, ◌*◌, ◌<◌, ◌≤◌, length, take}
use Rattle.std.proofs.lemmas.List.Edits.{sets}
use Rattle.base.specs.Lists.{tab}
use Rattle.undo_log.specs.declared.Cursor.{Cursor}
use Rattle.division.specs.Analysis.{Each}
use Rattle.division.specs.Runs.{reason_of}
use Rattle.plan.specs.Words.{word, vertices_of, edges_of, variables_of, unique_lit_at}
use Rattle.plan.specs.Proper.{ProperWords}
use Rattle.noting.specs.Note.{noting}
use Rattle.noting.specs.Standing.{standing_of}
use Rattle.noting.specs.Good.{GoodLog}
use Rattle.reasons.specs.Reason.{meaning}
use Rattle.recorded.specs.Recorded.{reason_at}
use Rattle.lists.specs.Within.{Within}
use Rattle.calls.specs.Calls as calls
use Rattle.calls.specs.Calls.{World, answer_list}
use Rattle.graph_division.specs.declared.GraphDivision.{GraphDivision}
use Rattle.graph_division.specs.declared.Outcome.{Outcome}
use Rattle.graph_division.specs.Calls.{Called, Fetched}
use Rattle.graph_division.specs.Outcomes.{answer_of}
use Rattle.graph_division.specs.Runs.{Request, initialize, propagate, undo, ask, lent_list, Kept, log_for, Reply, keeping}
use Rattle.simulation.specs.Start.{state_plan}

-- state, log and cursor stand for world w
pub record Represents (s : GraphDivision) (log : List ℕ) (c : Cursor) (w : World) : Type 0 where
  pub proper : ProperWords s.plan s.edges.ends
  pub words : 4360 ≤ length s.plan
  pub places : length s.reasons.at ≡ 4352
  -- edge states and bounds are what noting the log's literals gives, and these stand
  pub valid : GoodLog s.plan (noting s.noted log c)
  pub standing : w.standing ≡ standing_of (noting s.noted log c)
  -- the reason at each literal's place is the newest recorded
  pub reasons : (p : ℕ) → p < 2 * variables_of s.plan → meaning (reason_at s.reasons p) ≡ reason_of (unique_lit_at s.plan p) w.reasons
  -- and each names edges and vertices of the plan
  pub within : Each (λ l r. Within (state_plan s) r) w.reasons
  -- the list last left, which fits every reason buffer
  pub room : length s.last ≡ 260
  pub fits : s.last_len ≤ edges_of s.plan + 2 * vertices_of s.plan + 4
  pub last : tab (word s.last) s.last_len ≡ w.last
  pub done : s.initialized ≡ w.done

-- a call from state s has outcome y and leaves the log; the definition's is o
pub record Simulates (s : GraphDivision) (y : Outcome) (log : List ℕ) (o : calls.Outcome) : Type 0 where
  pub answer : y.answer ≡ answer_of o
  pub represents : Represents y.state log y.cursor o.world
  -- the plan stays
  pub plan : y.state.plan ≡ s.plan
  pub edges : y.state.edges ≡ s.edges

-- the same of a call that is lent a table and a list: what is handed on stands from the list's start on, all else of it stays
pub record SimulatesCalled (s : GraphDivision) (before : List ℕ) (x : Called) (o : calls.Outcome) : Type 0 where
  pub call : Simulates s x.outcome x.log o
  pub table : x.table ≡ o.table
  pub list : x.list ≡ sets before 0 o.handed
  pub fits : length o.handed ≤ length before

-- a query on state, log and cursor; the definition's outcome is o
pub record SimulatesFetched (s : GraphDivision) (log : List ℕ) (c : Cursor) (before : List ℕ) (x : Fetched) (o : calls.Outcome) : Type 0 where
  pub answer : x.answer ≡ answer_of o
  -- the list stands whole from the buffer's start on, all else of it stays
  pub buffer : x.buffer ≡ sets before 0 (answer_list o.answer)
  pub whole : take (length (answer_list o.answer)) x.buffer ≡ answer_list o.answer
  pub represents : Represents s log c o.world

-- with any log that is long enough and begins with the records, state and cursor stand for the world
pub record RepresentsKept (k : Kept) (w : World) : Type 0 where
  pub used : length k.records ≡ k.cursor.used
  -- there is such a log
  pub rest : List ℕ
  pub represents : Represents k.state (log_for k rest) k.cursor w

-- the literals that the definition's call hands on, or its reason
unfoldable pub values_for : Request → calls.Outcome → List ℕ
values_for (initialize t list tail) o = o.handed
values_for (propagate lit pending t list tail) o = o.handed
values_for (undo lit tail) o = []
values_for (ask q b tail) o = answer_list o.answer

-- reply y to a request is that of the definition's call, with outcome o
pub record Replies (k : Kept) (q : Request) (y : Reply) (o : calls.Outcome) : Type 0 where
  pub answer : y.answer ≡ answer_of o
  pub keeps : RepresentsKept (keeping y) o.world
  -- the plan stays
  pub plan : y.state.plan ≡ k.state.plan
  pub edges : y.state.edges ≡ k.state.edges
  pub table : y.table ≡ o.table
  -- they stand from the start of the list or of the reason buffer on; all else of it stays
  pub list : y.list ≡ sets (lent_list q) 0 (values_for q o)
  -- and they fit
  pub whole : take (length (values_for q o)) y.list ≡ values_for q o

-- from h to k, the world then; the plan stays
pub record Leads (h k : Kept) (w : World) : Type 0 where
  pub represents : RepresentsKept k w
  pub plan : k.state.plan ≡ h.state.plan
  pub edges : k.state.edges ≡ h.state.edges
