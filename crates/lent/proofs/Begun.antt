-- What `initialize` tried out is taken over or taken back, and that it read the table's copy does not show.
use mathlib.Core.Path.{◌≡◌, refl, sym, ap, subst, ◌∙◌}
use mathlib.Core.Bool.{Bool, true, false}
use mathlib.Core.List.{List, []}
use Prim.Native.Nat.{ℕ, ◌*◌, ◌≤◌}
use native.Mathlib.Omega.{arith}
use lib.ListN.{length, replicate}
use Rattle.base.specs.Lists.{tab}
use Rattle.undo_log.specs.declared.Cursor.{Cursor}
use Rattle.plan.specs.Words.{word, variables_of}
use Rattle.plan.specs.Check.{variables_high}
use Rattle.noting.specs.Note.{Noting, noting}
use Rattle.walks.specs.Written.{out_of, written}
use Rattle.recorded.specs.Recorded.{recorded}
use Rattle.refusals.specs.Refusals.{table_state_bad, initialize_refusal}
use Rattle.refusals.proofs.Accepted.{pick_zero}
use Rattle.judge.specs.declared.Judgement.{Judgement}
use Rattle.judge.specs.declared.Judgement.TheVariants.{Fine, Clash, Stopped}
use Rattle.notifications.specs.declared.Progress.{Progress}
use Rattle.notifications.specs.Notifications.{progress, Way, way, gone_through}
use Rattle.graph_division.specs.declared.GraphDivision.{GraphDivision}
use Rattle.graph_division.specs.declared.Outcome.{Outcome}
use Rattle.graph_division.specs.declared.Answer.{Answer}
use Rattle.graph_division.specs.declared.Answer.TheVariants as answer
use Rattle.graph_division.specs.Calls.{outcome, Called, called, refuse}
use Rattle.graph_division.specs.Initialize.{saved_table, restored_table, taken_over, taking, ended_by}
use Rattle.lent.specs.Lent.{entering_over, finished_over, begun_over}
use Rattle.lent.proofs.Saved.{Rest, restored, noted_saved, gone_saved, gone_kept}

-- ---- the end, by what the judgement is
module _ (s : GraphDivision) (c : Cursor) (entry log words left : List ℕ) (x : Progress) (back after handed list : List ℕ) (o : Outcome) where
  pub end_fine : (m l : List ℕ) → x.judgement ≡ Fine → m ≡ (written (tab (word handed) x.handed) (out_of list 0)).text →
      called o [] [] l ≡ taken_over s c entry log words left x true (answer.Consistent x.handed) →
      called o after m l ≡ ended_by s c entry log words left x x.judgement back after handed list
  unfolding ended_by taking
  end_fine m l f g e = (λ i. called (e i).outcome after (g i) (e i).log) ∙ ap (λ (j : Judgement). ended_by s c entry log words left x j back after handed list) (sym f)

  pub end_clash : (m l : List ℕ) (n : ℕ) → x.judgement ≡ Clash n → m ≡ (written (tab (word handed) x.handed) (out_of list 0)).text →
      called o [] [] l ≡ taken_over s c entry log words left x s.initialized answer.Conflict →
      called o after m l ≡ ended_by s c entry log words left x x.judgement back after handed list
  unfolding ended_by taking
  end_clash m l n f g e = (λ i. called (e i).outcome after (g i) (e i).log) ∙ ap (λ (j : Judgement). ended_by s c entry log words left x j back after handed list) (sym f)

  pub end_stopped : (u : List ℕ) (n : ℕ) → x.judgement ≡ Stopped n → u ≡ back → o ≡ refuse n s c →
      called o u list log ≡ ended_by s c entry log words left x x.judgement back after handed list
  unfolding ended_by
  end_stopped u n f g e = (λ i. called (e i) (g i) list log) ∙ ap (λ (j : Judgement). ended_by s c entry log words left x j back after handed list) (sym f)

-- ---- the copy for the table
in_range : (ws : List ℕ) (ends : List (List ℕ)) (noted t : List ℕ) (n : ℕ) (log : List ℕ) (c : Cursor) (done : Bool) →
    initialize_refusal ws ends noted t n log c done ≡ 0 → variables_high ws ≡ false
unfolding initialize_refusal
in_range ws ends noted t n log c done e =
    (pick_zero (variables_high ws) 7 _ (omega arith) (pick_zero (table_state_bad ws ends noted t n log c) 7 _ (omega arith) e).1).0

module _ (s : GraphDivision) (c : Cursor) (words t log : List ℕ) (p : variables_high s.plan ≡ false) (w : Way) (e : w ≡ finished_over s c words t log) where
  kept : (w.progress.past ≤ 2 * variables_of s.plan) × Rest t w.table
  unfolding finished_over entering_over
  kept = subst (λ (v : Way). (v.progress.past ≤ 2 * variables_of s.plan) × Rest t v.table) (sym e)
      (gone_kept s.plan s.edges.ends p t log c.used (entering_over s c words t log) (omega arith, (refl, λ i h. refl)))

  taken : (done : Bool) (a : Answer) → taken_over s c (saved_table t) log w.words w.left w.progress done a ≡ taken_over s c t log w.words w.left w.progress done a
  unfolding taken_over
  taken done a = ap (λ (z : Noting). called (outcome (record {
    plan = s.plan;
    edges = s.edges;
    noted = z.noted;
    reasons = recorded s.plan w.words s.reasons;
    last = w.left;
    last_len = w.progress.len;
    initialized = done;
  }) z.cursor a) [] [] z.log) (noted_saved s.plan s.edges.ends p t w.progress.past (noting s.noted log c) kept.0)

  module _ (list : List ℕ) where
    took : (done : Bool) (a : Answer) →
        taking s c (saved_table t) log w.words w.left w.progress done a w.table w.list list ≡ taking s c t log w.words w.left w.progress done a w.table w.list list
    unfolding taking
    took done a = ap (λ (z : Called). called z.outcome w.table (written (tab (word w.list) w.progress.handed) (out_of list 0)).text z.log) (taken done a)

    end_saved : (j : Judgement) →
        ended_by s c (saved_table t) log w.words w.left w.progress j (restored_table (saved_table t) w.table) w.table w.list list
        ≡ ended_by s c t log w.words w.left w.progress j t w.table w.list list
    unfolding ended_by
    end_saved Fine = took true (answer.Consistent w.progress.handed)
    end_saved (Clash n) = took s.initialized answer.Conflict
    end_saved (Stopped n) = ap (λ (u : List ℕ). called (refuse n s c) u list log) (restored t w.table kept.1)

    begin_is : ended_by s c (saved_table t) log w.words w.left w.progress w.progress.judgement (restored_table (saved_table t) w.table) w.table w.list list ≡ begun_over s c words t log list
    unfolding begun_over
    begin_is =
        end_saved w.progress.judgement ∙ ap (λ (v : Way). ended_by s c t log v.words v.left v.progress v.progress.judgement t v.table v.list list) e

-- the whole, from what each call of `begin` ensures
module _ (s : GraphDivision) (c : Cursor) (t log list : List ℕ) (ends : List (List ℕ)) (entry handed words proposals : List ℕ) where
  pub begin_by : (w : Way) (z : Called) →
      initialize_refusal s.plan s.edges.ends s.noted t (length list) log c s.initialized ≡ 0 →
      ends ≡ s.edges.ends → entry ≡ saved_table t → handed ≡ replicate 8704 0 → proposals ≡ replicate 8772 0 →
      w ≡ gone_through s.plan ends entry log c.used (way (progress Fine 0 s.last_len 0) s.noted t handed words proposals s.last) →
      z ≡ ended_by s c entry log w.words w.left w.progress w.progress.judgement (restored_table entry w.table) w.table w.list list →
      z ≡ begun_over s c words t log list
  unfolding finished_over entering_over
  begin_by w z r g q a d e k =
      let p = in_range s.plan s.edges.ends s.noted t (length list) log c s.initialized r in
      k
      ∙ (ap (λ (u : List ℕ). ended_by s c u log w.words w.left w.progress w.progress.judgement (restored_table u w.table) w.table w.list list) q
      ∙ begin_is s c words t log p w
      (e
      ∙ ((λ i. gone_through s.plan (g i) (q i) log c.used (way (progress Fine 0 s.last_len 0) s.noted t (a i) words (d i) s.last))
      ∙ gone_saved s.plan s.edges.ends p t log c.used _))
      list)
