-- "gives the one answer fixed there", whole: what a call answers, and what every buffer that it was lent holds then.
use Rattle.std.specs.Prelude.{◌≡◌, List, ℕ, ◌<◌, ◌≤◌, length, get_or}
use Rattle.std.proofs.lemmas.List.Edits.{sets}
use Rattle.undo_log.specs.declared.Cursor.{Cursor}
use Rattle.calls.specs.Calls as calls
use Rattle.calls.specs.Marks.{Marked}
use Rattle.as_noted.specs.AsNoted.{AsNoted}
use Rattle.graph_division.specs.Answers.{number_of, values_of}
use Rattle.graph_division.specs.Outcomes.{answer_of}
use Rattle.graph_division.specs.Runs.{Request, table_of, lent_list, tail_of, Kept, log_for, Reply, reply}

-- the literals of a reply, the edges of its run, or the bytes of its page, by what document 01 asks for: "a definition
-- gives this paper's number and values for each of its cases"
abbrev pub literals_of : Reply → List ℕ
literals_of r = values_of r.answer r.list

-- what an answer of the definition writes to the list or to the buffer: the literals of the reason, the edges of the
-- run, the bytes of the page, else the literals handed on, "conflict or not"
unfoldable pub written_by : calls.Answer → List ℕ → List ℕ
written_by calls.consistent handed = handed
written_by calls.conflicting handed = handed
written_by calls.noted handed = handed
written_by calls.undone handed = handed
written_by (calls.refused n) handed = handed
written_by (calls.reason ls) handed = ls
written_by (calls.found_run gs) handed = gs
written_by (calls.printed_page bytes) handed = bytes

abbrev pub written_of : calls.Outcome → List ℕ
written_of o = written_by o.answer o.handed

-- log m with cursor d, where it was log l with cursor c: as long as before, and only entries from the one cursor up to the other differ
pub record Logs (c : Cursor) (l : List ℕ) (d : Cursor) (m : List ℕ) : Type 0 where
  pub long : length m ≡ length l
  pub before : (i : ℕ) → i < c.used → get_or m i 0 ≡ get_or l i 0
  pub past : (i : ℕ) → d.used ≤ i → get_or m i 0 ≡ get_or l i 0

-- the reply to request q where k is kept is that of the definition's outcome o
pub record Whole (k : Kept) (q : Request) (o : calls.Outcome) : Type 0 where
  pub answer : (reply k q).answer ≡ answer_of o
  -- its literals are the outcome's, in their order
  pub values : literals_of (reply k q) ≡ values_of (answer_of o) (written_of o)
  -- they stand from the start of the list or of the buffer on; all else of it stays
  pub list : (reply k q).list ≡ sets (lent_list q) 0 (written_of o)
  -- "the table must show each"; every other entry keeps its code
  pub table : (reply k q).table ≡ o.table
  pub marked : Marked (table_of q) o.handed (reply k q).table
  -- "Entries past those a call writes, log records past the cursor included, keep what they held."
  pub log : Logs k.cursor (log_for k (tail_of q)) (reply k q).cursor (reply k q).log
  -- and up to it, where it is accepted: log, cursor, gates and bounds are what noting the literals that stand then gives
  pub noted : number_of (reply k q).answer ≡ 0 →
      AsNoted (reply k q).state.plan (reply k q).state.noted (reply k q).log (reply k q).cursor o.world.standing
