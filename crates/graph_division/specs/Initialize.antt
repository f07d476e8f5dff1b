-- `initialize`, on any input: the plan's literals that are true in the table on entry are notified, and analyzed once more.
use Rattle.std.specs.Prelude.{Bool, true, List, [], ℕ, eqb, length, get_or, replicate}
use Rattle.base.specs.Iter.{iter, pick}
use Rattle.base.specs.Lists.{tab, filled}
use Rattle.undo_log.specs.declared.Cursor.{Cursor}
use Rattle.plan.specs.Words.{word, unique_lit_at}
use Rattle.noting.specs.Note.{Noting, noting, note}
use Rattle.calls.specs.Table.{true_in}
use Rattle.walks.specs.Written.{out_of, written}
use Rattle.recorded.specs.Recorded.{recorded}
use Rattle.refusals.specs.Refusals.{initialize_refusal}
use Rattle.judge.specs.declared.Judgement.{Judgement}
use Rattle.judge.specs.declared.Judgement.TheVariants.{Fine, Clash, Stopped}
use Rattle.notifications.specs.declared.Progress.{Progress}
use Rattle.notifications.specs.Notifications.{lit_at, progress, Way, way, gone_through}
use Rattle.graph_division.specs.declared.GraphDivision.{GraphDivision}
use Rattle.graph_division.specs.declared.Answer.{Answer}
use Rattle.graph_division.specs.declared.Answer.TheVariants as answer
use Rattle.graph_division.specs.Calls.{outcome, Called, called, refuse}

-- the entries of the 4096 variables that a literal can have, 0 past the table's end; and a table with these entries again
unfoldable pub saved_table : List ℕ → List ℕ
saved_table t = tab (λ i. get_or t i 0) 4096

unfoldable pub restored_table : List ℕ → List ℕ → List ℕ
restored_table saved t = filled 0 4096 (λ i. get_or saved i 0) t

-- the literal at place p, if it is true in table t, is noted in the words and in the log; and those of all places below past
unfoldable pub noted_at : List ℕ → List ℕ → ℕ → Noting → Noting
noted_at ws t p x = pick (true_in t (unique_lit_at ws p)) (note ws (lit_at ws p) x) x

unfoldable pub noted_up_to : List ℕ → List ℕ → ℕ → Noting → Noting
noted_up_to ws t past x = iter (noted_at ws t) past x

-- what was tried out is taken over into state and log: the notified literals stand, and what their analyses recorded
unfoldable pub taken_over : GraphDivision → Cursor → List ℕ → List ℕ → List ℕ → List ℕ → Progress → Bool → Answer → Called
taken_over s c t log words left x done a =
    let y = noted_up_to s.plan t x.past (noting s.noted log c) in
    called (outcome (record {
      plan = s.plan;
      edges = s.edges;
      noted = y.noted;
      reasons = recorded s.plan words s.reasons;
      last = left;
      last_len = x.len;
      initialized = done;
    }) y.cursor a) [] [] y.log

-- the end: t tells which literals were notified, x how far they came, words what was recorded, left is the list last left
module _ (s : GraphDivision) (c : Cursor) (t log words left : List ℕ) (x : Progress) where
  -- what was handed on is in the table after it and at the start of the list; all else of the list stays
  unfoldable pub taking : Bool → Answer → List ℕ → List ℕ → List ℕ → Called
  taking done a after handed list =
      let y = taken_over s c t log words left x done a in
      called y.outcome after (written (tab (word handed) x.handed) (out_of list 0)).text y.log

  -- "A refused initialise takes back all it did.": back is the table then
  unfoldable pub ended_by : Judgement → List ℕ → List ℕ → List ℕ → List ℕ → Called
  ended_by Fine back after handed list = taking true (answer.Consistent x.handed) after handed list
  ended_by (Clash n) back after handed list = taking s.initialized answer.Conflict after handed list
  ended_by (Stopped n) back after handed list = called (refuse n s c) back list log

module _ (s : GraphDivision) (c : Cursor) (t log : List ℕ) where
  -- nothing is notified yet
  unfoldable pub entering : Way
  entering = way (progress Fine 0 s.last_len 0) s.noted t (replicate 8704 0) (replicate 8772 0) (replicate 8772 0) s.last

  -- all are, up to a conflict or a refusal, and the last pass is made
  unfoldable pub finished : Way
  finished = gone_through s.plan s.edges.ends t log c.used entering

  unfoldable pub begun : List ℕ → Called
  begun list = let w = finished in ended_by s c t log w.words w.left w.progress w.progress.judgement t w.table w.list list

  -- `initialize`
  unfoldable pub initialized : List ℕ → Called
  initialized list =
      let n = initialize_refusal s.plan s.edges.ends s.noted t (length list) log c s.initialized in
      pick (eqb n 0) (begun list) (called (refuse n s c) t list log)
