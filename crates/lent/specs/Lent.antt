-- A call on lent arrays, beside the call of crate graph_division on the state that they are the parts of: it changes the noted words in
-- place, and leaves what is to be recorded as the words of the proposals.
use Rattle.std.specs.Prelude.{◌≡◌, Bool, true, false, List, ℕ, eqb, ℤ, pos, length, replicate}
use Rattle.base.specs.Iter.{pick}
use Rattle.base.specs.Range.{in_range}
use Rattle.base.specs.declared.refusal.Refusal.{Refusal}
use Rattle.base.specs.Refusal.{number}
use Rattle.undo_log.specs.declared.Cursor.{Cursor}
use Rattle.reasons.specs.declared.reason.Reason.{Reason}
use Rattle.recorded.specs.declared.Reasons.{Reasons}
use Rattle.refusals.specs.Refusals.{lit_number, literal_refusal, initialize_refusal, propagate_refusal, fetch_refusal}
use Rattle.judge.specs.declared.Judgement.TheVariants.{Fine}
use Rattle.judge.specs.Judge.{judged_of, judge_words}
use Rattle.notifications.specs.Notifications.{progress, Way, way, gone_through}
use Rattle.graph_division.specs.declared.GraphDivision.{GraphDivision}
use Rattle.graph_division.specs.declared.Answer.{Answer}
use Rattle.graph_division.specs.declared.Answer.TheVariants as answer
use Rattle.graph_division.specs.Answers.{is_consistent}
use Rattle.graph_division.specs.Calls.{Called, called, outcome, refuse, with_noted, with_judged, tried_out, settled_by, adding, Fetched, fetched, giving}
use Rattle.graph_division.specs.Initialize.{ended_by}
use Rattle.lent.specs.declared.Done.{Done}

-- the state of these parts
abbrev pub state_of : List ℕ → List (List ℕ) → List ℕ → Reasons → List ℕ → ℕ → Bool → GraphDivision
state_of ws ends noted rs last len initialized = record {
  plan = ws;
  edges = record { ends = ends };
  noted = noted;
  reasons = rs;
  last = last;
  last_len = len;
  initialized = initialized;
}

-- the arrays that a call is lent are parts of state s; what is promised for every such state is promised for any arrays
pub record Parts (s : GraphDivision) (ws : List ℕ) (ends : List (List ℕ)) (words : List ℕ) : Type 0 where
  pub plan : ws ≡ s.plan
  pub edges : ends ≡ s.edges.ends
  pub noted : words ≡ s.noted

-- what a refused call on lent arrays answers
abbrev pub refused : Refusal → Cursor → Done
refused r c = record { cursor = c; answer = answer.Refused (number r); judged = false; len = 0 }

-- the state after a call: the noted words, and where there was an analysis that is accepted, its proposals recorded and its list last left
unfoldable pub state_after : GraphDivision → List ℕ → List ℕ → List ℕ → Done → GraphDivision
state_after s noted proposals left d = pick d.judged (with_judged noted (judged_of Fine proposals left) d.len s) (with_noted noted s)

unfoldable pub called_of : GraphDivision → List ℕ → List ℕ → List ℕ → Done → List ℕ → List ℕ → List ℕ → Called
called_of s noted proposals left d t list log = called (outcome (state_after s noted proposals left d) d.cursor d.answer) t list log

-- the state once an initialise was consistent
unfoldable pub with_initialized : GraphDivision → GraphDivision
with_initialized s = state_of s.plan s.edges.ends s.noted s.reasons s.last s.last_len true

-- the state after an initialise, where the words are those of all its analyses, the newest of each place
unfoldable pub begun_after : GraphDivision → List ℕ → List ℕ → List ℕ → Done → GraphDivision
begun_after s noted words left d = pick (is_consistent d.answer) (with_initialized (state_after s noted words left d)) (state_after s noted words left d)

unfoldable pub begun_of : GraphDivision → List ℕ → List ℕ → List ℕ → Done → List ℕ → List ℕ → List ℕ → Called
begun_of s noted words left d t list log = called (outcome (begun_after s noted words left d) d.cursor d.answer) t list log

-- `propagate` with any words p for the proposals and any list left, which the analysis writes over: with words and a list of zeros it is
-- graph_division's `propagated`
module _ (s : GraphDivision) (c : Cursor) (p left : List ℕ) where
  unfoldable pub settled_over : ℕ → List ℕ → List ℕ → List ℕ → Called
  settled_over l t list log =
      let j = judge_words s.plan s.edges.ends (tried_out s c l) t p left in
      settled_by s c l j j.judgement t list log

  unfoldable pub propagated_over : ℤ → ℤ → List ℕ → List ℕ → List ℕ → Called
  propagated_over lit pending t list log =
      let n = propagate_refusal s.plan s.edges.ends s.noted t (length list) log c lit in
      pick (eqb n 0) (pick (in_range (pos 0) pending) (settled_over (lit_number lit) t list log) (adding s c (lit_number lit) t list log)) (called (refuse n s c) t list log)

-- `initialize` with any words for what its analyses record: with zeros it is graph_division's `initialized`
module _ (s : GraphDivision) (c : Cursor) (words t log : List ℕ) where
  unfoldable pub entering_over : Way
  entering_over = way (progress Fine 0 s.last_len 0) s.noted t (replicate 8704 0) words (replicate 8772 0) s.last

  unfoldable pub finished_over : Way
  finished_over = gone_through s.plan s.edges.ends t log c.used entering_over

  unfoldable pub begun_over : List ℕ → Called
  begun_over list = let w = finished_over in ended_by s c t log w.words w.left w.progress w.progress.judgement t w.table w.list list

  unfoldable pub initialized_over : List ℕ → Called
  initialized_over list =
      let n = initialize_refusal s.plan s.edges.ends s.noted t (length list) log c s.initialized in
      pick (eqb n 0) (begun_over list) (called (refuse n s c) t list log)

-- `calc_reason` of a literal for any reason r: with the one recorded for it, it is graph_division's `reason_fetched`
unfoldable pub reason_fetched_by : GraphDivision → Cursor → List ℕ → ℤ → Reason → List ℕ → Fetched
reason_fetched_by s c log lit r b =
    let n = fetch_refusal s.plan s.edges.ends s.noted (length b) log c in
    let m = literal_refusal s.plan lit in
    pick (eqb n 0) (pick (eqb m 0) (giving s r b) (fetched (answer.Refused m) b)) (fetched (answer.Refused n) b)
