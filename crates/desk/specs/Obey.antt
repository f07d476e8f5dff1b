-- The program's lines past the plan's (document 01, "Text lines"): the calls on state, cursor, table and log, and what is printed.
use Rattle.std.specs.Prelude.{Bool, true, false, List, [], ℕ, ◌/◌, ℤ, pos, set, replicate}
use Rattle.base.specs.Iter.{pick}
use Rattle.base.specs.Range.{in_range}
use Rattle.undo_log.specs.declared.Cursor.{Cursor}
use Rattle.text.specs.declared.Line.{Line}
use Rattle.text.specs.declared.Line.TheVariants.{O, P, G, «V», I, N, U, R, RLast, Malformed}
use Rattle.calls.specs.Table.{unset_in, enter}
use Rattle.refusals.specs.Refusals.{lit_number}
use Rattle.graph_division.specs.declared.GraphDivision.{GraphDivision}
use Rattle.graph_division.specs.declared.Answer.{Answer}
use Rattle.graph_division.specs.declared.Answer.TheVariants.{Consistent, Conflict, Noted, Undone, Reason, Refused}
use Rattle.graph_division.specs.declared.Outcome.{Outcome}
use Rattle.graph_division.specs.Calls.{Called, Fetched, propagated, undone, reason_fetched, last_fetched}
use Rattle.graph_division.specs.Initialize.{initialized}
use Rattle.graph_division.specs.Answers.{is_refused}
use Rattle.desk.specs.declared.Obeyed.{Obeyed}
use Rattle.desk.specs.Print.{line_of, Printed, printing}

-- what the program holds between two lines
pub record Desk : Type 0 where
  pub state : GraphDivision
  pub cursor : Cursor
  pub table : List ℕ
  pub log : List ℕ

abbrev pub desk : GraphDivision → Cursor → List ℕ → List ℕ → Desk
desk s c t log = record { state = s; cursor = c; table = t; log = log }

-- what it holds after a line, and what that line prints
pub record Turn : Type 0 where
  pub desk : Desk
  pub bytes : List ℕ

abbrev pub turn : Desk → List ℕ → Turn
turn d bytes = record { desk = d; bytes = bytes }

-- "N first marks an unset variable at the current level (none for a literal outside its range)"
unfoldable pub marked : ℤ → List ℕ → List ℕ
marked lit t = pick (in_range (pos 8191) lit) (pick (unset_in t (lit_number lit)) (enter t (lit_number lit)) t) t

-- V
unfoldable pub valued : Desk → ℕ → ℕ → Turn
valued d v code = turn (desk d.state d.cursor (set d.table v code) d.log) []

-- I. The list is as long as the longest that a call may fill.
unfoldable pub begun : Desk → Turn
begun d =
    let o = initialized d.state d.cursor d.table d.log (replicate 4352 0) in
    turn (desk o.outcome.state o.outcome.cursor o.table o.log) (line_of o.outcome.answer o.list)

-- N "takes the mark back if refused"
unfoldable pub notified : Desk → ℤ → ℤ → Turn
notified d lit pending =
    let o = propagated d.state d.cursor lit pending (marked lit d.table) (replicate 4352 0) d.log in
    turn (desk o.outcome.state o.outcome.cursor (pick (is_refused o.outcome.answer) d.table o.table) o.log) (line_of o.outcome.answer o.list)

-- "an accepted U unsets its variable"
unfoldable pub taken_back : Desk → ℤ → Turn
taken_back d lit =
    let o = undone d.state d.cursor lit d.log in
    turn (desk o.state o.cursor (pick (is_refused o.answer) d.table (set d.table (lit_number lit / 2) 0)) d.log) (line_of o.answer (replicate 260 0))

-- R, with a literal or a minus, changes nothing; what it prints
unfoldable pub reason_asked : GraphDivision → Cursor → List ℕ → ℤ → List ℕ
reason_asked s c log lit = let f = reason_fetched s c log lit (replicate 260 0) in line_of f.answer f.buffer

unfoldable pub last_asked : GraphDivision → Cursor → List ℕ → List ℕ
last_asked s c log = let f = last_fetched s c log (replicate 260 0) in line_of f.answer f.buffer

-- one line; a line of the plan and a malformed one do nothing
unfoldable pub obeyed : Line → Desk → Turn
obeyed («V» v code) d = valued d v code
obeyed (N lit pending) d = notified d lit pending
obeyed (U lit) d = taken_back d lit
obeyed (R lit) d = turn d (reason_asked d.state d.cursor d.log lit)
obeyed RLast d = turn d (last_asked d.state d.cursor d.log)
obeyed I d = begun d
obeyed (O s e) d = turn d []
obeyed (P w k n) d = turn d []
obeyed (G u v l) d = turn d []
obeyed Malformed d = turn d []

-- what the code leaves: the result, the table, the log and the buffer
pub record Held : Type 0 where
  pub obeyed : Obeyed
  pub table : List ℕ
  pub log : List ℕ
  pub out : List ℕ

abbrev pub held : Obeyed → List ℕ → List ℕ → List ℕ → Held
held r t log out = record { obeyed = r; table = t; log = log; out = out }

abbrev pub staying : GraphDivision → Cursor → ℕ → Obeyed
staying s c n = record { state = s; cursor = c; printed = n }

abbrev pub holding : Desk → Printed → Held
holding d p = held (staying d.state d.cursor p.count) d.table d.log p.out

-- a turn with its bytes written into a buffer
unfoldable pub writing : Turn → List ℕ → Held
writing t out = holding t.desk (printing t.bytes out)
