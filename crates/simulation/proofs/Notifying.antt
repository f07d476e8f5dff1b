-- An analysis of what is noted, from a state that represents a world: what is judged, recorded, left and handed on.
use mathlib.Core.Path.{◌≡◌, refl, sym, ap, subst, ◌∙◌}
use mathlib.Core.Bool.{Bool}
use mathlib.Core.List.{List, ◌++◌}
use Prim.Native.Nat.{ℕ, ◌+◌, ◌*◌, ◌≤◌}
use native.Mathlib.Omega.{arith}
use lib.ListN.{length, replicate, length-replicate}
use lib.Seq.{sets, length-sets}
use Rattle.base.specs.Lists.{tab}
use Rattle.undo_log.specs.declared.Cursor.{Cursor}
use Rattle.division.specs.Analysis.{Proposal, Each}
use Rattle.division.specs.Noting.{note_all, Consistent}
use Rattle.division.specs.Runs as runs
use Rattle.division.specs.Runs.{analysis}
use Rattle.plan.specs.Words.{word, vertices_of, edges_of, variables_of, unique_lit_at}
use Rattle.noting.specs.Note.{Noting}
use Rattle.noting.specs.Standing.{standing_of}
use Rattle.noting.specs.Good.{GoodLog}
use Rattle.reasons.specs.Reason.{meaning}
use Rattle.recorded.specs.declared.Reasons.{Reasons}
use Rattle.recorded.specs.Recorded.{reason_at, recorded}
use Rattle.lists.specs.Within.{Within}
use Rattle.lists.proofs.Fits.{proposed_within}
use Rattle.sweep.specs.Sweep.{handing, handed_on}
use Rattle.reasons.proofs.Stored.{stored_length}
use Rattle.sweep.proofs.Stored.{cleared_length}
use Rattle.judge.specs.Judge.{Judged, judge_words}
use Rattle.judge.specs.Answers as judging
use Rattle.judge.specs.Answers.{JudgedBy, Leaves, Keeps}
use Rattle.judge.proofs.Agrees.{Agrees, valid_agrees}
use Rattle.judge.proofs.Known.{each_proposed}
use Rattle.judge.proofs.Judged.{judged_words}
use Rattle.judge.proofs.Cases.{judged_handed}
use Rattle.calls.specs.Look as look
use Rattle.calls.specs.Look.{Looked, looked}
use Rattle.calls.specs.Calls.{World}
use Rattle.calls.proofs.View.{saw}
use Rattle.calls.proofs.Fetchable.{each_map, each_append}
use Rattle.graph_division.specs.declared.GraphDivision.{GraphDivision}
use Rattle.simulation.specs.Start.{state_plan}
use Rattle.simulation.specs.Represents.{Represents}
use Rattle.simulation.proofs.Recording.{recorded_length, recorded_newest}
use Rattle.simulation.proofs.Looked.{fine_left, tab_take, taken_short}

-- the state with all that a notification changes
abbrev pub changed : GraphDivision → List ℕ → Reasons → List ℕ → ℕ → Bool → GraphDivision
changed s noted rs last len done = record {
  plan = s.plan;
  edges = s.edges;
  noted = noted;
  reasons = rs;
  last = last;
  last_len = len;
  initialized = done;
}

-- and the world
abbrev pub world : List ℕ → List Proposal → List ℕ → Bool → World
world ls ps last done = record { standing = ls; reasons = ps; last = last; done = done }

abbrev pub judged_in : GraphDivision → Noting → List ℕ → List ℕ → List ℕ → Judged
judged_in s after t proposals left = judge_words s.plan s.edges.ends after.noted t proposals left

-- ls stands then, and what is noted is judged with table t: x is what the code finds, o what the definition does
pub record Analyzed (s : GraphDivision) (w : World) (after : Noting) (ls t proposals left : List ℕ) (x : Judged) (o : Looked) : Type 0 where
  pub consistent : Consistent ls
  pub judged : JudgedBy s.plan (state_plan s) ls t proposals left x
  pub long : length x.proposals ≡ length proposals
  -- where nothing is wrong, nothing is left
  pub fine : o.judgement ≡ look.fine → Represents (changed s after.noted (recorded s.plan x.proposals s.reasons) x.left 0 s.initialized) after.log after.cursor (world ls (o.records ++ w.reasons) o.left w.done)
  -- or what was left before stays
  pub kept : o.judgement ≡ look.fine → (len : ℕ) (m : List ℕ) (done : Bool) → len ≤ edges_of s.plan + 2 * vertices_of s.plan + 4 → tab (word left) len ≡ m →
      Represents (changed s after.noted (recorded s.plan x.proposals s.reasons) x.left len done) after.log after.cursor (world ls (o.records ++ w.reasons) m done)
  pub clash : o.judgement ≡ look.clash →
      Represents (changed s after.noted (recorded s.plan x.proposals s.reasons) x.left (length o.left) s.initialized) after.log after.cursor (world ls (o.records ++ w.reasons) o.left w.done)
  -- what is handed on, into any list with room for all
  pub handed : o.judgement ≡ look.fine → (list : List ℕ) (at : ℕ) → at + 2 * variables_of s.plan ≤ length list →
      handed_on s.plan x.proposals (handing t list at) ≡ handing o.table (sets list at o.handed) (at + length o.handed)

-- after: what is noted then, and ls stands; any buffers of the lengths that refusal 7 asks for
module _ (s : GraphDivision) (log : List ℕ) (c : Cursor) (w : World) (r : Represents s log c w) (after : Noting) (ls : List ℕ) (v : GoodLog s.plan after) (e : ls ≡ standing_of after)
    (t proposals left : List ℕ) (room : 68 + 4 * variables_of s.plan ≤ length proposals) (long : length left ≡ 260) where
  abbrev ws : List ℕ
  ws = s.plan

  abbrev ends : List (List ℕ)
  ends = s.edges.ends

  abbrev lk : Looked
  lk = looked (state_plan s) ls t

  abbrev j : Judged
  j = judged_in s after t proposals left

  noted_agrees : Agrees ws ends after.noted ls
  noted_agrees = subst (Agrees ws ends after.noted) (sym e) (valid_agrees ws ends r.proper r.words after v)

  judged_with : (b : List ℕ) → edges_of ws + 2 * vertices_of ws + 4 ≤ length b → JudgedBy ws (state_plan s) ls t proposals b (judge_words ws ends after.noted t proposals b)
  judged_with b h = judged_words ws ends after.noted ls noted_agrees proposals room t b h

  -- the judgement is that of the definition's look
  judged_by : JudgedBy ws (state_plan s) ls t proposals left j
  judged_by = judged_with left (omega (arith, r.proper.fine.fits, r.proper.fine.vertices, long))

  -- the list left fits the shortest reason buffer that refusal 7 lets pass
  left_short : lk.judgement ≡ look.clash → length lk.left ≤ edges_of ws + 2 * vertices_of ws + 4
  left_short q =
      let n = edges_of ws + 2 * vertices_of ws + 4 in
      let z = length-replicate {A = ℕ} n 0 in
      let (a, b) = subst (λ (y : look.Judgement). Leaves y lk.left (replicate n 0) (judge_words ws ends after.noted t proposals (replicate n 0)).left) q (judged_with (replicate n 0) (omega arith)).leaves in
      omega (arith, taken_short lk.left _ b, ap length a, length-sets (replicate n 0) 0 lk.left)

  -- the proposals are recorded; the list last left is the first len of `last`
  recorded_represents : lk.records ≡ (analysis (state_plan s) ls).props → (last : List ℕ) (len : ℕ) (m : List ℕ) (done is-done : Bool) → done ≡ is-done → length last ≡ 260 → len ≤ edges_of ws + 2 * vertices_of ws + 4 → tab (word last) len ≡ m →
      Represents (changed s after.noted (recorded ws j.proposals s.reasons) last len done) after.log after.cursor (world ls (lk.records ++ w.reasons) m is-done)
  recorded_represents recs last len m done is-done d full short q = record {
    proper = r.proper;
    words = r.words;
    places = recorded_length ws j.proposals s.reasons r.proper.few.0 r.places;
    valid = v;
    standing = e;
    reasons = λ p h.
        ap (λ (m : List ℕ). meaning (reason_at (recorded ws m s.reasons) p)) judged_by.words
        ∙ recorded_newest ws ends after.noted ls noted_agrees proposals room s.reasons r.places w.reasons p h (r.reasons p h)
        ∙ ap (λ (qs : List Proposal). runs.reason_of (unique_lit_at ws p) (qs ++ w.reasons)) (sym recs);
    within = subst (λ (qs : List Proposal). Each (λ x y. Within (state_plan s) y) (qs ++ w.reasons)) (sym recs)
        (each_append (each_map (proposed_within (state_plan s) (note_all (state_plan s) ls)) (each_proposed ws ends r.proper ls noted_agrees.consistent)) r.within);
    room = full;
    fits = short;
    last = q;
    done = d;
  }

  -- where nothing is wrong, the buffer stays and nothing is left
  fine_still : lk.judgement ≡ look.fine → j.left ≡ left
  fine_still q = subst (λ (y : look.Judgement). Leaves y lk.left left j.left) q judged_by.leaves

  fine_records : lk.judgement ≡ look.fine → lk.records ≡ (analysis (state_plan s) ls).props
  fine_records q = subst (λ (y : look.Judgement). Keeps y lk.records (analysis (state_plan s) ls).props) q judged_by.records

  fine_kept : lk.judgement ≡ look.fine → (len : ℕ) (m : List ℕ) (done is-done : Bool) → done ≡ is-done → len ≤ edges_of ws + 2 * vertices_of ws + 4 → tab (word left) len ≡ m →
      Represents (changed s after.noted (recorded ws j.proposals s.reasons) j.left len done) after.log after.cursor (world ls (lk.records ++ w.reasons) m is-done)
  fine_kept q len m done is-done f short z =
      recorded_represents (fine_records q) j.left len m done is-done f (ap length (fine_still q) ∙ long) short (ap (λ (b : List ℕ). tab (word b) len) (fine_still q) ∙ z)

  clash_represents : lk.judgement ≡ look.clash →
      Represents (changed s after.noted (recorded ws j.proposals s.reasons) j.left (length lk.left) s.initialized) after.log after.cursor (world ls (lk.records ++ w.reasons) lk.left w.done)
  clash_represents q =
      let (a, b) = subst (λ (y : look.Judgement). Leaves y lk.left left j.left) q judged_by.leaves in
      recorded_represents (subst (λ (y : look.Judgement). Keeps y lk.records (analysis (state_plan s) ls).props) q judged_by.records) j.left (length lk.left) lk.left s.initialized w.done r.done
      (ap length a ∙ length-sets left 0 lk.left ∙ long) (left_short q) (tab_take (length lk.left) j.left (taken_short lk.left j.left b) ∙ b)

  handed_on_lem : lk.judgement ≡ look.fine → (list : List ℕ) (at : ℕ) → at + 2 * variables_of ws ≤ length list →
      handed_on ws j.proposals (handing t list at) ≡ handing lk.table (sets list at lk.handed) (at + length lk.handed)
  unfolding judging.answer_for
  handed_on_lem q list at h = judged_handed ws ends after.noted ls noted_agrees t proposals left j judged_by room
      (judged_by.answer ∙ ap (λ (y : look.Judgement). judging.answer_for y (length lk.left)) q) list at h

  pub analyzed : Analyzed s w after ls t proposals left (judged_in s after t proposals left) (looked (state_plan s) ls t)
  analyzed = record {
    consistent = noted_agrees.consistent;
    judged = judged_by;
    long = ap length judged_by.words ∙ stored_length _ _ ∙ cleared_length proposals;
    fine = λ q. fine_kept q 0 lk.left s.initialized w.done r.done (omega arith) (tab_take 0 left (omega arith) ∙ sym (fine_left (state_plan s) ls t (saw (state_plan s) ls t) q));
    kept = λ q len m done short z. fine_kept q len m done done refl short z;
    clash = clash_represents;
    handed = handed_on_lem;
  }
