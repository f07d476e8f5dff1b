-- The body of the Rust's `propagate` after noting, up to handing on, on any words: document 01, "Analysis" and refusals 13 and 14.
use Rattle.std.specs.Prelude.{Bool, true, false, List, [], ℕ, ◌+◌, ◌*◌, ◌%◌, ltb, length, get_or, take, replicate, Option, None, Some, Ok, Err}
use Rattle.base.specs.Iter.{pick}
use Rattle.sat.specs.Literal.{negate}
use Rattle.calls.specs.Table.{some_current}
use Rattle.plan.specs.Words.{vertices_of, edges_of, variables_of, unique_lit_at}
use Rattle.noting.specs.Words.{crossed_in}
use Rattle.views.specs.Compute.{Computed, compute_view}
use Rattle.views.specs.Cells.{Chosen, separate_ranges}
use Rattle.reasons.specs.declared.Stop.TheVariants.{DisconnectedInside, Over, Under, Crowded, Apart, Crossing, ZeroSize, Unfit}
use Rattle.reasons.specs.Verdicts.{Verdict, Ran}
use Rattle.reasons.specs.Reason.{reason_of}
use Rattle.walks.specs.Written.{out_of}
use Rattle.walks.specs.Answers.{Answer}
use Rattle.lists.specs.Parts.{and_word}
use Rattle.lists.specs.Lists.{reason_lits}
use Rattle.lists.specs.Conflicts.{chosen_of, conflict_lits}
use Rattle.analysis.specs.Analyze.{analyze_words}
use Rattle.sweep.specs.Sweep.{cleared, first_false_at}
use Rattle.judge.specs.declared.Judgement.{Judgement}
use Rattle.judge.specs.declared.Judgement.TheVariants.{Fine, Clash, Stopped}

-- a judgement, and the buffer for the list then
pub record Listing : Type 0 where
  pub judgement : Judgement
  pub left : List ℕ

abbrev pub listing : Judgement → List ℕ → Listing
listing j l = record { judgement = j; left = l }

-- and the proposals' words then
pub record Judged : Type 0 where
  pub judgement : Judgement
  pub proposals : List ℕ
  pub left : List ℕ

abbrev pub judged_of : Judgement → List ℕ → List ℕ → Judged
judged_of j p l = record { judgement = j; proposals = p; left = l }

-- a list that could be written is a conflict's
unfoldable pub listed : Option ℕ → Judgement
listed (Some n) = Clash n
listed None = Stopped 7

unfoldable pub of_list : Answer → Listing
of_list a = listing (listed a.listed) a.text

-- refusal 14, "false proposal, no entry of its list (negation included) coded 3 or 4"
unfoldable pub judge_current : List ℕ → Option ℕ → List ℕ → Judgement
judge_current t (Some n) l = pick (some_current t (take n l)) (Clash n) (Stopped 14)
judge_current t None l = Stopped 7

unfoldable pub of_false : List ℕ → Answer → Listing
of_false t a = listing (judge_current t a.listed a.text) a.text

-- the negation of the literal at place p, as a word of 32 bits
unfoldable pub negation_at : List ℕ → ℕ → ℕ
negation_at ws p = negate (unique_lit_at ws p % 4294967296)

module _ (ws : List ℕ) (es : List (List ℕ)) (noted : List ℕ) where
  -- a conflict, where ps are the vertices of its separate ranges
  unfoldable pub judge_chosen : Verdict → List ℕ → List ℕ → Listing
  judge_chosen v ps l = of_list (conflict_lits ws es noted v ps (out_of l 0))

  unfoldable pub judge_conflict : Verdict → List ℕ → Listing
  judge_conflict v l = judge_chosen v [] l

  -- the vertices of separate ranges, found again
  unfoldable pub ranges_of : Chosen → List ℕ
  ranges_of c = chosen_of c.list c.count

  unfoldable pub crowded_by : ℕ → List ℕ → Computed → Listing
  crowded_by r l c = pick c.done (judge_chosen (Err (Crowded r)) (ranges_of (separate_ranges ws noted c.words r (replicate 64 0))) l) (listing (Stopped 7) l)

  unfoldable pub judge_crowded : ℕ → List ℕ → Listing
  judge_crowded r l = crowded_by r l (compute_view ws es noted (replicate 512 0))

  -- "its reason as this analysis recorded it, whatever a fetch of it would answer, plus its negation"
  unfoldable pub false_lits : List ℕ → ℕ → List ℕ → Answer
  false_lits words p l = and_word (negation_at ws p) (reason_lits ws es noted (reason_of (get_or words (68 + 2 * p) 0) (get_or words (69 + 2 * p) 0)) (out_of l 0))

  unfoldable pub judge_false : List ℕ → List ℕ → ℕ → List ℕ → Listing
  judge_false t words p l = of_false t (false_lits words p l)

  -- the first proposal whose value is false, if any
  unfoldable pub judge_proposals : List ℕ → List ℕ → List ℕ → Listing
  judge_proposals t words l = pick (ltb (first_false_at ws words t) (2 * variables_of ws)) (judge_false t words (first_false_at ws words t) l) (listing Fine l)

  unfoldable pub judge_found : List ℕ → Verdict → List ℕ → List ℕ → Listing
  judge_found t (Ok u) words l = judge_proposals t words l
  judge_found t (Err (DisconnectedInside g)) words l = judge_conflict (Err (DisconnectedInside g)) l
  judge_found t (Err (Over v)) words l = judge_conflict (Err (Over v)) l
  judge_found t (Err (Under v)) words l = judge_conflict (Err (Under v)) l
  judge_found t (Err (Crowded r)) words l = judge_crowded r l
  judge_found t (Err (Apart a b)) words l = judge_conflict (Err (Apart a b)) l
  judge_found t (Err (Crossing v)) words l = judge_conflict (Err (Crossing v)) l
  judge_found t (Err ZeroSize) words l = listing (Stopped 13) l
  judge_found t (Err Unfit) words l = listing (Stopped 7) l

-- the marks and two words for each distinct literal, and the length that refusal 7 asks of a reason buffer
unfoldable pub has_room : List ℕ → List ℕ → List ℕ → Bool
has_room ws proposals l = pick (ltb (length proposals) (68 + 4 * variables_of ws)) false (pick (ltb (length l) (edges_of ws + 2 * vertices_of ws + 4)) false true)

unfoldable pub with_words : List ℕ → Listing → Judged
with_words words x = judged_of x.judgement words x.left

unfoldable pub judge_ran : List ℕ → List (List ℕ) → List ℕ → List ℕ → List ℕ → Ran → Judged
judge_ran ws es noted t l r = with_words r.words (judge_found ws es noted t r.verdict r.words l)

-- where v is what applying a literal told of crossed bounds
unfoldable pub judge_told : List ℕ → List (List ℕ) → List ℕ → ℕ → List ℕ → List ℕ → List ℕ → Judged
judge_told ws es noted v t proposals l =
    pick (has_room ws proposals l)
    (judge_ran ws es noted t l (analyze_words ws es noted v (cleared proposals)))
    (judged_of (Stopped 7) proposals l)

-- and where it told the lowest vertex whose bounds cross
unfoldable pub judge_words : List ℕ → List (List ℕ) → List ℕ → List ℕ → List ℕ → List ℕ → Judged
judge_words ws es noted t proposals l = judge_told ws es noted (crossed_in ws noted) t proposals l
