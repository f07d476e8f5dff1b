-- What `judge` answers and leaves is what the definition says of the standing literals and the table: crate calls' `looked`.
use mathlib.Core.Path.{◌≡◌, refl, sym, ap, ◌∙◌, subst}
use mathlib.Core.Bool.{Bool, true, false}
use mathlib.Core.List.{List, [], ◌∷◌}
use Prim.Native.Nat.{ℕ, ◌+◌, ◌*◌, ◌≤◌}
use lib.Dec.{ltb}
use lib.ListN.{length}
use lib.Seq.{sets}
use borrow.Author.Tests.{le-ltb}
use Rattle.base.specs.Iter.{pick}
use Rattle.base.proofs.Loop.{pick_yes, pick_no, tested}
use Rattle.division.specs.Plan.{Plan}
use Rattle.division.specs.Conflicts.{conflict_list}
use Rattle.division.specs.Analysis.{Verdict, going, conflict, zero_size, Out}
use Rattle.division.specs.Noting.{note_all}
use Rattle.division.specs.Runs.{analysis}
use Rattle.calls.specs.Table.{some_current}
use Rattle.calls.proofs.View.{Saw, saw, saw_stop, saw_conflict, saw_false, saw_fine}
use Rattle.calls.specs.Look.{Looked, looked, looked_by, offered, clashes, stop, false_list}
use Rattle.plan.specs.Words.{vertices_of, edges_of, variables_of, unique_lit_at}
use Rattle.plan.specs.Plan.{plan_of}
use Rattle.plan.specs.Proper.{ProperWords}
use Rattle.noting.specs.Words.{crossed_in}
use Rattle.noting.specs.Note.{Noting}
use Rattle.noting.specs.Standing.{standing_of}
use Rattle.noting.specs.Good.{GoodLog}
use Rattle.reasons.specs.Words.{stored}
use Rattle.reasons.specs.Verdicts.{verdict_of, ran_of}
use Rattle.analysis.specs.Relabel.{relabelled}
use Rattle.sweep.specs.Sweep.{cleared, first_false_at}
use Rattle.judge.specs.Judge.{Listing, listing, Judged, has_room, with_words, judge_ran, judge_proposals, judge_found, judge_told, judge_words}
use Rattle.judge.specs.Answers.{answer_for, Leaves, Keeps, at_places, JudgedBy}
use Rattle.judge.specs.declared.Judgement.TheVariants.{Fine, Clash, Stopped}
use Rattle.judge.proofs.Agrees.{Agrees, valid_agrees, ran_is}
use Rattle.judge.proofs.Conflicts.{conflict_found, conflict_short, list_taken}
use Rattle.judge.proofs.False.{fine_found, false_found}

-- a judgement and the list left, as the definition has them
pub record Answers (o : Looked) (l : List ℕ) (x : Listing) : Type 0 where
  pub answer : x.judgement ≡ answer_for o.judgement (length o.left)
  pub leaves : Leaves o.judgement o.left l x.left

module _ (d : Plan) (ls t : List ℕ) (o : Out) (l : List ℕ) where
  clash_answers : (m : List ℕ) → length m ≤ length l → Answers (clashes o t m) l (listing (Clash (length m)) (sets l 0 m))
  unfolding clashes answer_for
  clash_answers m h = record { answer = refl; leaves = (refl, list_taken m l h) }

  stop_answers : (n : ℕ) (after : List ℕ) → Answers (stop n t) l (listing (Stopped n) after)
  unfolding stop answer_for
  stop_answers n after = record { answer = refl; leaves = tt }

  fine_answers : Answers (offered d ls t o []) l (listing Fine l)
  unfolding offered answer_for
  fine_answers = record { answer = refl; leaves = refl }

  -- refusal 14's test
  current_answers : (b : Bool) (m : List ℕ) → length m ≤ length l → Answers (pick b (clashes o t m) (stop 14 t)) l (listing (pick b (Clash (length m)) (Stopped 14)) (sets l 0 m))
  unfolding pick
  current_answers true m h = clash_answers m h
  current_answers false m h = stop_answers 14 (sets l 0 m)

  false_answers : (p : ℕ) → length (false_list d ls o p) ≤ length l →
      Answers (offered d ls t o (p ∷ [])) l (listing (pick (some_current t (false_list d ls o p)) (Clash (length (false_list d ls o p))) (Stopped 14)) (sets l 0 (false_list d ls o p)))
  unfolding offered
  false_answers p h = current_answers (some_current t (false_list d ls o p)) (false_list d ls o p) h

-- what is recorded, where nothing is refused
keeps : (d : Plan) (ls t : List ℕ) {o : Looked} → Saw d ls t o → Keeps o.judgement o.records (analysis d ls).props
unfolding stop clashes offered
keeps d ls t (saw_stop n) = tt
keeps d ls t (saw_conflict c e) = refl
keeps d ls t (saw_false p ps e h) = refl
keeps d ls t (saw_fine e) = refl

module _ (ws : List ℕ) (ends : List (List ℕ)) (noted ls : List ℕ) (k : Agrees ws ends noted ls) (proposals : List ℕ) (room : 68 + 4 * variables_of ws ≤ length proposals) (t l : List ℕ) (long : edges_of ws + 2 * vertices_of ws + 4 ≤ length l) where
  abbrev d : Plan
  d = plan_of ws ends

  abbrev o : Out
  o = analysis d ls

  abbrev words : List ℕ
  words = stored (at_places ws o.props) (cleared proposals)

  going_answers : Answers (looked_by d ls t o going) l (judge_found ws ends noted t (verdict_of going) words l)
  unfolding looked_by judge_found verdict_of
  going_answers = tested (ltb (first_false_at ws words t) (2 * variables_of ws))
      (λ e.
      let (f, h, j) = false_found ws ends noted ls k proposals room t l long e in
      subst (λ (qs : List ℕ). Answers (offered d ls t o qs) l (judge_proposals ws ends noted t words l)) (sym f)
      (subst (Answers (offered d ls t o (unique_lit_at ws (first_false_at ws words t) ∷ [])) l) (sym j) (false_answers d ls t o l (unique_lit_at ws (first_false_at ws words t)) h)))
      (λ e.
      let (f, j) = fine_found ws ends noted ls k proposals room t l long e in
      subst (λ (qs : List ℕ). Answers (offered d ls t o qs) l (judge_proposals ws ends noted t words l)) (sym f)
      (subst (Answers (offered d ls t o []) l) (sym j) (fine_answers d ls t o l)))

  found_answers : (v : Verdict) → o.verdict ≡ v → Answers (looked_by d ls t o v) l (judge_found ws ends noted t (verdict_of v) words l)
  unfolding looked_by judge_found verdict_of
  found_answers going e = going_answers
  found_answers (conflict c) e =
      subst (Answers (clashes o t (conflict_list d (note_all d ls) c)) l) (sym (conflict_found ws ends noted ls k t words l long c e))
      (clash_answers d ls t o l (conflict_list d (note_all d ls) c) (conflict_short ws ends noted ls k l long c e))
  found_answers zero_size e = stop_answers d ls t o l 13 l

  has_room_lem : has_room ws proposals l ≡ true
  unfolding has_room
  has_room_lem = pick_no _ _ (le-ltb (length proposals) (68 + 4 * variables_of ws) room) ∙ pick_no _ _ (le-ltb (length l) (edges_of ws + 2 * vertices_of ws + 4) long)

  words_are : judge_words ws ends noted t proposals l ≡ with_words words (judge_found ws ends noted t (verdict_of o.verdict) words l)
  unfolding judge_words judge_told judge_ran ran_of relabelled
  words_are = pick_yes _ _ has_room_lem ∙ ap (judge_ran ws ends noted t l) (ran_is ws ends noted ls k (cleared proposals))

  pub judged_words : JudgedBy ws d ls t proposals l (judge_words ws ends noted t proposals l)
  unfolding looked with_words
  judged_words = subst (JudgedBy ws d ls t proposals l) (sym words_are) (
      let a = found_answers o.verdict refl in
      record { answer = a.answer; leaves = a.leaves; words = refl; records = keeps d ls t (saw d ls t) }
      )

-- where applying a literal told the lowest vertex whose bounds cross
pub judge_told_lem : (ws : List ℕ) (ends : List (List ℕ)) (noted : List ℕ) (v : ℕ) (t proposals l : List ℕ) {x : Judged} →
    v ≡ crossed_in ws noted → x ≡ judge_told ws ends noted v t proposals l → x ≡ judge_words ws ends noted t proposals l
unfolding judge_words
judge_told_lem ws ends noted v t proposals l e h = h ∙ ap (λ (u : ℕ). judge_told ws ends noted u t proposals l) e

-- `judge` of a proper plan's words, where what it is lent passes refusal 7: the table may hold anything
pub judged : (ws : List ℕ) (ends : List (List ℕ)) → ProperWords ws ends → 4360 ≤ length ws → (x : Noting) → GoodLog ws x →
    (t proposals l : List ℕ) → 68 + 4 * variables_of ws ≤ length proposals → edges_of ws + 2 * vertices_of ws + 4 ≤ length l →
    JudgedBy ws (plan_of ws ends) (standing_of x) t proposals l (judge_words ws ends x.noted t proposals l)
judged ws ends p long x v t proposals l room fits = judged_words ws ends x.noted (standing_of x) (valid_agrees ws ends p long x v) proposals room t l fits
