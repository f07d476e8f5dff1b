-- The calls on the propagator's state, on any input. A call that is refused leaves the state, the cursor and all that it was lent.
use Rattle.std.specs.Prelude.{Bool, true, false, List, ℕ, ◌+◌, ◌*◌, ◌/◌, eqb, ltb, ℤ, pos, length, replicate, Option, None, Some, Result, Ok, Err}
use Rattle.base.specs.Iter.{pick}
use Rattle.base.specs.Range.{in_range}
use Rattle.undo_log.specs.declared.Cursor.{Cursor}
use Rattle.noting.specs.Note.{Noting, noting, note}
use Rattle.noting.specs.Undo.{undo}
use Rattle.base.specs.Lists.{tab}
use Rattle.plan.specs.Words.{word, vertices_of, edges_of}
use Rattle.walks.specs.Written.{out_of, written}
use Rattle.walks.specs.Answers as walks
use Rattle.runs.specs.Walk.{run_listed, vertex_given}
use Rattle.pages.specs.declared.PageError.{PageError}
use Rattle.pages.specs.declared.PageError.TheVariants.{TooSmall, Unknown}
use Rattle.pages.specs.Lines as lines
use Rattle.views.specs.declared.compute.Regions.{Regions}
use Rattle.views.specs.Compute.{regions_from, bounds_from}
use Rattle.reasons.specs.declared.reason.Reason.{Reason}
use Rattle.reasons.specs.declared.reason.Reason.TheVariants.{NotPropagated, EdgeInSameGroup, EdgeBetweenDifferentGroups, TooLargeIfRegionsAreMerged, RegionAlreadyLarge, RegionAlreadySmall, InconsistentBoundsIfRegionsAreMerged, BoundPropagationWithinRegion, AdjacentSameSizeRegions}
use Rattle.analysis.specs.Placed.{place_of_lit}
use Rattle.lists.specs.Lists.{reason_lits}
use Rattle.recorded.specs.Recorded.{recorded, reason_at}
use Rattle.refusals.specs.Refusals.{state_bad, lit_number, literal_refusal, propagate_refusal, undo_refusal, fetch_refusal}
use Rattle.sweep.specs.Sweep.{Handed, handing, handed_on}
use Rattle.judge.specs.declared.Judgement.{Judgement}
use Rattle.judge.specs.declared.Judgement.TheVariants.{Fine, Clash, Stopped}
use Rattle.judge.specs.Judge.{Judged, judge_words}
use Rattle.notifications.specs.Notifications as notifications
use Rattle.graph_division.specs.declared.GraphDivision.{GraphDivision}
use Rattle.graph_division.specs.declared.Outcome.{Outcome}
use Rattle.graph_division.specs.declared.Answer.{Answer}
use Rattle.graph_division.specs.declared.Answer.TheVariants as answer

abbrev pub outcome : GraphDivision → Cursor → Answer → Outcome
outcome s c a = record { state = s; cursor = c; answer = a }

-- a call's outcome, and the table, the list and the log that it was lent
pub record Called : Type 0 where
  pub outcome : Outcome
  pub table : List ℕ
  pub list : List ℕ
  pub log : List ℕ

abbrev pub called : Outcome → List ℕ → List ℕ → List ℕ → Called
called o t l log = record { outcome = o; table = t; list = l; log = log }

unfoldable pub refuse : ℕ → GraphDivision → Cursor → Outcome
refuse n s c = outcome s c (answer.Refused n)

-- the state with these words noted
unfoldable pub with_noted : List ℕ → GraphDivision → GraphDivision
with_noted noted s = record {
  plan = s.plan;
  edges = s.edges;
  noted = noted;
  reasons = s.reasons;
  last = s.last;
  last_len = s.last_len;
  initialized = s.initialized;
}

-- and with an analysis's proposals recorded, and the list that it leaves
unfoldable pub with_judged : List ℕ → Judged → ℕ → GraphDivision → GraphDivision
with_judged noted j len s = record {
  plan = s.plan;
  edges = s.edges;
  noted = noted;
  reasons = recorded s.plan j.proposals s.reasons;
  last = j.left;
  last_len = len;
  initialized = s.initialized;
}

module _ (s : GraphDivision) (c : Cursor) where
  -- literal l is noted in the state and in the log
  unfoldable pub noted_in : ℕ → List ℕ → Noting
  noted_in l log = note s.plan l (noting s.noted log c)

  -- the words noted, tried out with no log
  unfoldable pub tried_out : ℕ → List ℕ
  tried_out l = notifications.tried_out s.plan l s.noted

  -- "A non-zero pending number, negative included, only notes the literal."
  unfoldable pub adding : ℕ → List ℕ → List ℕ → List ℕ → Called
  adding l t list log = called (outcome (with_noted (noted_in l log).noted s) (noted_in l log).cursor answer.Noted) t list (noted_in l log).log

  -- an analysis that is accepted: the literal stands, the proposals are recorded
  unfoldable pub accepting : ℕ → Judged → ℕ → Answer → List ℕ → List ℕ → List ℕ → Called
  accepting l j len a t list log = called (outcome (with_judged (noted_in l log).noted j len s) (noted_in l log).cursor a) t list (noted_in l log).log

  unfoldable pub handing_on : ℕ → Judged → Handed → List ℕ → Called
  handing_on l j h log = accepting l j 0 (answer.Consistent h.out.place) h.table h.out.text log

  unfoldable pub settled_by : ℕ → Judged → Judgement → List ℕ → List ℕ → List ℕ → Called
  settled_by l j Fine t list log = handing_on l j (handed_on s.plan j.proposals (handing t list 0)) log
  settled_by l j (Clash len) t list log = accepting l j len answer.Conflict t list log
  settled_by l j (Stopped n) t list log = called (refuse n s c) t list log

  unfoldable pub settled : ℕ → List ℕ → List ℕ → List ℕ → Called
  settled l t list log =
      let j = judge_words s.plan s.edges.ends (tried_out l) t (replicate 8772 0) (replicate 260 0) in
      settled_by l j j.judgement t list log

  -- `propagate`
  unfoldable pub propagated : ℤ → ℤ → List ℕ → List ℕ → List ℕ → Called
  propagated lit pending t list log =
      let n = propagate_refusal s.plan s.edges.ends s.noted t (length list) log c lit in
      pick (eqb n 0) (pick (in_range (pos 0) pending) (settled (lit_number lit) t list log) (adding (lit_number lit) t list log)) (called (refuse n s c) t list log)

  -- `undo`: "undo always gives undecided"; the log stays as it is
  unfoldable pub undone : ℤ → List ℕ → Outcome
  undone lit log =
      let n = undo_refusal s.plan s.edges.ends s.noted log c lit in
      let x = undo (noting s.noted log c) in
      pick (eqb n 0) (outcome (with_noted x.noted s) x.cursor answer.Undone) (refuse n s c)

-- a fetch's answer, and the buffer that it was lent
pub record Fetched : Type 0 where
  pub answer : Answer
  pub buffer : List ℕ

abbrev pub fetched : Answer → List ℕ → Fetched
fetched a b = record { answer = a; buffer = b }

-- more literals than a reason buffer must hold: "gates + 2 × pens + 4"
unfoldable pub reason_over : List ℕ → ℕ → Bool
reason_over ws n = ltb (edges_of ws + 2 * vertices_of ws + 4) n

-- the first n of a list, written to the buffer from its start; all else of it stays. A list that is longer than a reason buffer must hold is
-- of a state that no call leaves, and refused with 7.
unfoldable pub copied : List ℕ → List ℕ → ℕ → List ℕ → Fetched
copied ws l n b = pick (reason_over ws n) (fetched (answer.Refused 7) b) (fetched (answer.Reason n) (written (tab (word l) n) (out_of b 0)).text)

-- 15 "no reason recorded", 16 "recorded path gone"; a list is made aside, and written where it is whole
unfoldable pub reason_given : List ℕ → List ℕ → Option ℕ → List ℕ → Fetched
reason_given ws l (Some n) b = copied ws l n b
reason_given ws l None b = fetched (answer.Refused 16) b

abbrev pub is_none : Reason → Bool
is_none NotPropagated = true
is_none (EdgeInSameGroup g) = false
is_none (EdgeBetweenDifferentGroups h g flip) = false
is_none (TooLargeIfRegionsAreMerged g l) = false
is_none (RegionAlreadyLarge v) = false
is_none (RegionAlreadySmall v) = false
is_none (InconsistentBoundsIfRegionsAreMerged g a b flip) = false
is_none (BoundPropagationWithinRegion l k u) = false
is_none (AdjacentSameSizeRegions a la ua b lb ub u) = false

module _ (s : GraphDivision) where
  -- the reason recorded for literal l, and its list
  unfoldable pub recorded_for : ℕ → Reason
  recorded_for l = reason_at s.reasons (place_of_lit s.plan l)

  unfoldable pub list_for : Reason → walks.Answer
  list_for r = reason_lits s.plan s.edges.ends s.noted r (out_of (replicate 260 0) 0)

  unfoldable pub giving : Reason → List ℕ → Fetched
  giving r b = pick (is_none r) (fetched (answer.Refused 15) b) (reason_given s.plan (list_for r).text (list_for r).listed b)

module _ (s : GraphDivision) (c : Cursor) (log : List ℕ) where
  -- `calc_reason` without a literal: the list last left
  unfoldable pub last_fetched : List ℕ → Fetched
  last_fetched b =
      let n = fetch_refusal s.plan s.edges.ends s.noted (length b) log c in
      pick (eqb n 0) (copied s.plan s.last s.last_len b) (fetched (answer.Refused n) b)

  -- `calc_reason` of a literal
  unfoldable pub reason_fetched : ℤ → List ℕ → Fetched
  reason_fetched lit b =
      let n = fetch_refusal s.plan s.edges.ends s.noted (length b) log c in
      let m = literal_refusal s.plan lit in
      pick (eqb n 0) (pick (eqb m 0) (giving s (recorded_for s (lit_number lit)) b) (fetched (answer.Refused m) b)) (fetched (answer.Refused n) b)

-- document 02, request 1: the run, or 18 "when every run between the pens has a shut gate, or one pen is unknown"
abbrev pub run_answer : Option ℕ → Answer
run_answer (Some n) = answer.Run n
run_answer None = answer.Refused 18

-- the best run by the edge states, which stand at the start of the noted words
unfoldable pub best_listed : GraphDivision → ℤ → ℤ → List ℕ → walks.Answer
best_listed s from to b =
    let p = s.plan in
    run_listed s.edges.ends s.noted (edges_of p) (vertices_of p) (vertex_given from) (vertex_given to) b

-- `run`: "into a buffer of the reason buffer's length, tested in 7"
unfoldable pub run_fetched : GraphDivision → Cursor → List ℕ → ℤ → ℤ → List ℕ → Fetched
run_fetched s c log from to b =
    let n = fetch_refusal s.plan s.edges.ends s.noted (length b) log c in
    let r = best_listed s from to b in
    pick (eqb n 0) (fetched (run_answer r.listed) r.text) (fetched (answer.Refused n) b)

-- document 02, request 3: the page, or 19 "when the page buffer is under 39 bytes a region". No plan that passes 7 has
-- more than 64 vertices.
abbrev pub page_answer : Result ℕ PageError → Answer
page_answer (Ok n) = answer.Page n
page_answer (Err TooSmall) = answer.Refused 19
page_answer (Err Unknown) = answer.Refused 7

-- the decided regions r of the noted words, with their greatest lower and least upper bounds
unfoldable pub figures_with : GraphDivision → Regions → lines.Figures
figures_with s r =
    let n = vertices_of s.plan in
    let lower = bounds_from r.labels s.noted 128 n false in
    let upper = bounds_from r.labels s.noted 192 n true in
    lines.figures_of r.labels r.weights lower.bounds upper.bounds

unfoldable pub figures_in : GraphDivision → lines.Figures
figures_in s = figures_with s (regions_from s.plan s.edges.ends s.noted false)

unfoldable pub page_printed : lines.PageBuffer → Fetched
page_printed x = fetched (page_answer x.printed) x.buffer

-- `page`: 19 "is tested right after 7", which asks nothing of this buffer
unfoldable pub page_fetched : GraphDivision → Cursor → List ℕ → List ℕ → Fetched
page_fetched s c log b =
    pick (state_bad s.plan s.edges.ends s.noted log c) (fetched (answer.Refused 7) b)
    (page_printed (lines.printed_in (figures_in s) (vertices_of s.plan) b))
