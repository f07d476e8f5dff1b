-- A fetch on lent arrays is the fetch on the state that they are the parts of, by what is tested first.
use mathlib.Core.Path.{◌≡◌, sym, ap, ◌∙◌}
use mathlib.Core.List.{List}
use Prim.Native.Nat.{ℕ}
use lib.IntN.{ℤ}
use lib.ListN.{length}
use borrow.Author.Tests.{eq-eqb, ne_eqb}
use Rattle.base.proofs.Loop.{pick_yes, pick_no}
use Rattle.undo_log.specs.declared.Cursor.{Cursor}
use Rattle.reasons.specs.declared.reason.Reason.{Reason}
use Rattle.plan.specs.Words.{vertices_of, edges_of}
use Rattle.std.specs.Prelude.{Option}
use Rattle.walks.specs.Answers as walks
use Rattle.runs.specs.Walk.{run_listed, vertex_given}
use Rattle.refusals.specs.Refusals.{literal_refusal, fetch_refusal}
use Rattle.graph_division.specs.declared.GraphDivision.{GraphDivision}
use Rattle.graph_division.specs.declared.Answer.{Answer}
use Rattle.graph_division.specs.declared.Answer.TheVariants as answer
use Rattle.graph_division.specs.Calls.{Fetched, fetched, copied, giving, last_fetched, run_answer, best_listed, run_fetched}
use Rattle.lent.specs.Lent.{reason_fetched_by}

module _ (s : GraphDivision) (c : Cursor) (log b : List ℕ) (n : ℕ) (e : n ≡ fetch_refusal s.plan s.edges.ends s.noted (length b) log c) where
  module _ (lit : ℤ) (r : Reason) where
    pub reason_refused : (n ≡ 0 → ⊥) → fetched (answer.Refused n) b ≡ reason_fetched_by s c log lit r b
    unfolding reason_fetched_by
    reason_refused z = ap (λ (k : ℕ). fetched (answer.Refused k) b) e
        ∙ sym (pick_no _ _ (ne_eqb _ _ (λ (f : fetch_refusal s.plan s.edges.ends s.noted (length b) log c ≡ 0). z (e ∙ f))))

    pub lit_refused : (m : ℕ) → m ≡ literal_refusal s.plan lit → n ≡ 0 → (m ≡ 0 → ⊥) → fetched (answer.Refused m) b ≡ reason_fetched_by s c log lit r b
    unfolding reason_fetched_by
    lit_refused m g z y = ap (λ (k : ℕ). fetched (answer.Refused k) b) g
        ∙ sym (pick_yes _ _ (eq-eqb _ _ (sym e ∙ z)) ∙ pick_no _ _ (ne_eqb _ _ (λ (f : literal_refusal s.plan lit ≡ 0). y (g ∙ f))))

    pub reason_found : (m : ℕ) (x : Fetched) → m ≡ literal_refusal s.plan lit → n ≡ 0 → m ≡ 0 → x ≡ giving s r b → x ≡ reason_fetched_by s c log lit r b
    unfolding reason_fetched_by
    reason_found m x g z y h = h ∙ sym (pick_yes _ _ (eq-eqb _ _ (sym e ∙ z)) ∙ pick_yes _ _ (eq-eqb _ _ (sym g ∙ y)))

  pub last_refused : (n ≡ 0 → ⊥) → fetched (answer.Refused n) b ≡ last_fetched s c log b
  unfolding last_fetched
  last_refused z = ap (λ (k : ℕ). fetched (answer.Refused k) b) e
      ∙ sym (pick_no _ _ (ne_eqb _ _ (λ (f : fetch_refusal s.plan s.edges.ends s.noted (length b) log c ≡ 0). z (e ∙ f))))

  pub last_found : (x : Fetched) → n ≡ 0 → x ≡ copied s.plan s.last s.last_len b → x ≡ last_fetched s c log b
  unfolding last_fetched
  last_found x z h = h ∙ sym (pick_yes _ _ (eq-eqb _ _ (sym e ∙ z)))

  module _ (from to : ℤ) where
    pub run_refused : (n ≡ 0 → ⊥) → fetched (answer.Refused n) b ≡ run_fetched s c log from to b
    unfolding run_fetched
    run_refused z = ap (λ (k : ℕ). fetched (answer.Refused k) b) e
        ∙ sym (pick_no _ _ (ne_eqb _ _ (λ (f : fetch_refusal s.plan s.edges.ends s.noted (length b) log c ≡ 0). z (e ∙ f))))

    pub run_found : (from' to' : ℤ) (m k p q : ℕ) (l : Option ℕ) (x : Answer) (b' : List ℕ) → n ≡ 0 → from' ≡ from → to' ≡ to →
        m ≡ edges_of s.plan → k ≡ vertices_of s.plan → p ≡ vertex_given from' → q ≡ vertex_given to' →
        walks.answer_of l b' ≡ run_listed s.edges.ends s.noted m k p q b → x ≡ run_answer l → fetched x b' ≡ run_fetched s c log from to b
    unfolding run_fetched best_listed
    run_found from' to' m k p q l x b' z f t em ek ep eq h ex =
        let v : p ≡ vertex_given from = ep ∙ ap vertex_given f in
        let u : q ≡ vertex_given to = eq ∙ ap vertex_given t in
        let g : walks.answer_of l b' ≡ best_listed s from to b = h ∙ (λ i. run_listed s.edges.ends s.noted (em i) (ek i) (v i) (u i) b) in
        ap (λ (y : Answer). fetched y b') ex ∙ ap (λ (a : walks.Answer). fetched (run_answer a.listed) a.text) g ∙ sym (pick_yes _ _ (eq-eqb _ _ (sym e ∙ z)))
