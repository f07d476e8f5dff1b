-- On any state, log, cursor and buffers, damaged ones included: a call that is refused leaves all of them as they were.
use mathlib.Core.Path.{◌≡◌, refl, sym, ap, ◌∙◌}
use mathlib.Core.Bool.{Bool, true, false, not, ◌||◌}
use mathlib.Core.List.{List, [], ◌∷◌}
use Prim.Native.Nat.{ℕ}
use native.Mathlib.Omega.{arith}
use lib.IntN.{ℤ, pos}
use lib.Dec.{eqb, ltb}
use lib.ListN.{length}
use Rattle.base.specs.Iter.{pick}
use Rattle.base.specs.Range.{in_range}
use Rattle.base.proofs.Loop.{pick_yes, pick_no, pick_ind, tested}
use Rattle.walks.specs.Written.{out_of}
use Rattle.walks.specs.Answers as walks
use Rattle.walks.specs.Answers.{given, missing}
use Rattle.runs.specs.Walk.{listed, run_listed}
use Rattle.pages.specs.Lines as pages
use Rattle.pages.specs.Lines.{Figures, printed_in}
use Rattle.std.specs.Prelude.{Option, None, Some}
use Rattle.noting.specs.Buffers.{table_bad, list_short, reason_short}
use Rattle.refusals.specs.Refusals.{lit_number, literal_refusal, state_bad, table_state_bad, initialize_refusal, propagate_refusal, undo_refusal, fetch_refusal}
use Rattle.judge.specs.declared.Judgement.{Judgement}
use Rattle.judge.specs.declared.Judgement.TheVariants.{Fine, Clash, Stopped}
use Rattle.judge.specs.Judge.{Judged}
use Rattle.notifications.specs.declared.Progress.{Progress}
use Rattle.graph_division.specs.declared.Outcome.{Outcome}
use Rattle.graph_division.specs.declared.Answer.{Answer}
use Rattle.graph_division.specs.declared.Answer.TheVariants.{Consistent, Conflict, Noted, Undone, Reason, Run, Page, Refused}
use Rattle.graph_division.specs.Calls.{Called, called, refuse, adding, accepting, handing_on, settled_by, settled, propagated, undone, Fetched, fetched, copied, reason_given, is_none, list_for, recorded_for, giving, reason_fetched, last_fetched, run_answer, best_listed, run_fetched}
use Rattle.graph_division.specs.Calls.{page_answer, figures_in, page_printed, page_fetched}
use Rattle.graph_division.specs.Initialize.{taking, taken_over, ended_by, begun, initialized}
use Rattle.graph_division.specs.Runs.{Query, reason_for, last_left, run_between, page, Request, initialize, propagate, undo, ask, table_of, lent_list, tail_of, Kept, log_for, Reply, replied, replied_called, replied_fetched, asked, reply}
use Rattle.claims.specs.Conditions.{turned_away_with}
use Rattle.claims.proofs.Replying.{kind_of, amount_of}

-- any reply that is turned away is turned away with the number that it answers
Unchanged : Kept → Request → Reply → Type 0
Unchanged k q y = (n : ℕ) → y.answer ≡ Refused n → y ≡ turned_away_with k q n

module _ (k : Kept) (q : Request) where
  away : (m : ℕ) (y : Reply) → y ≡ turned_away_with k q m → Unchanged k q y
  unfolding Unchanged turned_away_with replied refuse amount_of
  away m y e n f = e ∙ ap (turned_away_with k q) (ap amount_of (ap (λ (z : Reply). z.answer) (sym e) ∙ f))

  -- one that answers anything else is not
  other : (y : Reply) (a : Answer) → y.answer ≡ a → (kind_of a ≡ 5 → ⊥) → Unchanged k q y
  unfolding Unchanged kind_of
  other y a e h n f = absurd (h (ap kind_of (sym e ∙ f)))

  by_test : (b : Bool) (x y : Called) → Unchanged k q (replied_called x) → Unchanged k q (replied_called y) → Unchanged k q (replied_called (pick b x y))
  unfolding pick
  by_test true x y g h = g
  by_test false x y g h = h

  by_fetch : (log : List ℕ) (b : Bool) (x y : Fetched) → Unchanged k q (replied_fetched k log x) → Unchanged k q (replied_fetched k log y) → Unchanged k q (replied_fetched k log (pick b x y))
  unfolding pick
  by_fetch log true x y g h = g
  by_fetch log false x y g h = h

module _ (k : Kept) where
  ended_unchanged : (t list tail words left : List ℕ) (x : Progress) (j : Judgement) (u m : List ℕ) → Unchanged k (initialize t list tail) (replied_called (ended_by k.state k.cursor t (log_for k tail) words left x j t u m list))
  unfolding ended_by taking taken_over replied_called replied turned_away_with table_of lent_list tail_of kind_of
  ended_unchanged t list tail words left x Fine u m = other k (initialize t list tail) _ (Consistent _) refl (λ e. omega arith)
  ended_unchanged t list tail words left x (Clash n) u m = other k (initialize t list tail) _ Conflict refl (λ e. omega arith)
  ended_unchanged t list tail words left x (Stopped n) u m = away k (initialize t list tail) n _ refl

  settled_unchanged : (lit pending : ℤ) (t list tail : List ℕ) (l : ℕ) (x : Judged) (j : Judgement) → Unchanged k (propagate lit pending t list tail) (replied_called (settled_by k.state k.cursor l x j t list (log_for k tail)))
  unfolding settled_by handing_on accepting replied_called replied turned_away_with table_of lent_list tail_of kind_of
  settled_unchanged lit pending t list tail l x Fine = other k (propagate lit pending t list tail) _ (Consistent _) refl (λ e. omega arith)
  settled_unchanged lit pending t list tail l x (Clash n) = other k (propagate lit pending t list tail) _ Conflict refl (λ e. omega arith)
  settled_unchanged lit pending t list tail l x (Stopped n) = away k (propagate lit pending t list tail) n _ refl

  copied_unchanged : (q : Query) (b tail ws l : List ℕ) (n : ℕ) → Unchanged k (ask q b tail) (replied_fetched k (log_for k tail) (copied ws l n b))
  unfolding copied replied_fetched replied refuse turned_away_with table_of lent_list tail_of kind_of
  copied_unchanged q b tail ws l n =
      by_fetch k (ask q b tail) _ _ _ _ (away k (ask q b tail) 7 _ refl) (other k (ask q b tail) _ (Reason n) refl (λ e. omega arith))

  given_unchanged : (q : Query) (b tail ws l : List ℕ) (x : Option ℕ) → Unchanged k (ask q b tail) (replied_fetched k (log_for k tail) (reason_given ws l x b))
  unfolding reason_given replied_fetched replied refuse turned_away_with table_of lent_list tail_of
  given_unchanged q b tail ws l (Some n) = copied_unchanged q b tail ws l n
  given_unchanged q b tail ws l None = away k (ask q b tail) 16 _ refl

  -- a call that is refused leaves the state, the cursor and all that it was lent
  refused_initialize : (t list tail : List ℕ) → Unchanged k (initialize t list tail) (reply k (initialize t list tail))
  unfolding reply initialized begun turned_away_with table_of lent_list tail_of replied_called
  refused_initialize t list tail = by_test k (initialize t list tail) _ _ _ (ended_unchanged t list tail _ _ _ _ _ _) (away k (initialize t list tail) _ _ refl)

  refused_propagate : (lit pending : ℤ) (t list tail : List ℕ) → Unchanged k (propagate lit pending t list tail) (reply k (propagate lit pending t list tail))
  unfolding reply propagated settled adding turned_away_with table_of lent_list tail_of replied_called replied kind_of
  refused_propagate lit pending t list tail =
      let q = propagate lit pending t list tail in
      by_test k q _ _ _
      (by_test k q _ _ _ (settled_unchanged lit pending t list tail _ _ _) (other k q _ Noted refl (λ e. omega arith)))
      (away k q _ _ refl)

  refused_undo : (lit : ℤ) (tail : List ℕ) → Unchanged k (undo lit tail) (reply k (undo lit tail))
  unfolding reply undone turned_away_with table_of lent_list tail_of replied kind_of
  refused_undo lit tail = tested (eqb (undo_refusal k.state.plan k.state.edges.ends k.state.noted (log_for k tail) k.cursor lit) 0)
      (λ e. other k (undo lit tail) _ Undone (ap (λ (y : Outcome). y.answer) (pick_yes _ _ e)) (λ z. omega arith))
      (λ e. away k (undo lit tail) _ _ (ap (λ (y : Outcome). replied y [] [] (log_for k tail)) (pick_no _ _ e)))

  -- where there is no run the buffer stays
  listed_unchanged : (q : Query) (b tail : List ℕ) (x : List (List ℕ)) →
      Unchanged k (ask q b tail) (replied_fetched k (log_for k tail) (fetched (run_answer (listed x (out_of b 0)).listed) (listed x (out_of b 0)).text))
  unfolding listed given missing replied_fetched replied refuse turned_away_with table_of lent_list tail_of kind_of
  listed_unchanged q b tail [] = away k (ask q b tail) 18 _ refl
  listed_unchanged q b tail (gs ∷ rest) = other k (ask q b tail) _ (Run _) refl (λ e. omega arith)

  run_unchanged : (q : Query) (from to : ℤ) (b tail : List ℕ) →
      Unchanged k (ask q b tail) (replied_fetched k (log_for k tail) (fetched (run_answer (best_listed k.state from to b).listed) (best_listed k.state from to b).text))
  unfolding best_listed run_listed missing replied_fetched replied refuse turned_away_with table_of lent_list tail_of
  run_unchanged q from to b tail =
      pick_ind (λ (a : walks.Answer). Unchanged k (ask q b tail) (replied_fetched k (log_for k tail) (fetched (run_answer a.listed) a.text))) _ _ _
      (λ _. listed_unchanged q b tail _) (λ _. away k (ask q b tail) 18 _ refl)

  -- where there is no room for the page the buffer stays
  printed_unchanged : (q : Query) (t : Figures) (n : ℕ) (b tail : List ℕ) →
      Unchanged k (ask q b tail) (replied_fetched k (log_for k tail) (page_printed (printed_in t n b)))
  unfolding page_printed printed_in replied_fetched replied refuse turned_away_with table_of lent_list tail_of kind_of
  printed_unchanged q t n b tail =
      let q = ask q b tail in
      pick_ind (λ (x : pages.PageBuffer). Unchanged k q (replied_fetched k (log_for k tail) (page_printed x))) _ _ _
      (λ _. away k q 7 _ refl)
      (λ _. pick_ind (λ (x : pages.PageBuffer). Unchanged k q (replied_fetched k (log_for k tail) (page_printed x))) _ _ _
      (λ _. away k q 19 _ refl) (λ _. other k q _ (Page _) refl (λ e. omega arith)))

  refused_ask : (q : Query) (b tail : List ℕ) → Unchanged k (ask q b tail) (reply k (ask q b tail))
  unfolding reply asked reason_fetched giving last_fetched run_fetched page_fetched turned_away_with table_of lent_list tail_of replied_fetched replied refuse kind_of
  refused_ask (reason_for lit) b tail =
      let q = ask (reason_for lit) b tail in
      by_fetch k q _ _ _ _
      (by_fetch k q _ _ _ _ (by_fetch k q _ _ _ _ (away k q 15 _ refl) (given_unchanged (reason_for lit) b tail _ _ _)) (away k q _ _ refl))
      (away k q _ _ refl)
  refused_ask last_left b tail =
      let q = ask last_left b tail in
      by_fetch k q _ _ _ _ (copied_unchanged last_left b tail _ _ _) (away k q _ _ refl)
  refused_ask (run_between from to) b tail =
      let q = ask (run_between from to) b tail in
      by_fetch k q _ _ _ _ (run_unchanged (run_between from to) from to b tail) (away k q _ _ refl)
  refused_ask page b tail = by_fetch k (ask page b tail) _ _ _ _ (away k (ask page b tail) 7 _ refl) (printed_unchanged page _ _ b tail)

  -- a call that is refused leaves the state, the cursor and all that it was lent
  pub refused_unchanged : (q : Request) (n : ℕ) → (reply k q).answer ≡ Refused n → reply k q ≡ turned_away_with k q n
  unfolding Unchanged
  refused_unchanged (initialize t list tail) = refused_initialize t list tail
  refused_unchanged (propagate lit pending t list tail) = refused_propagate lit pending t list tail
  refused_unchanged (undo lit tail) = refused_undo lit tail
  refused_unchanged (ask q b tail) = refused_ask q b tail
