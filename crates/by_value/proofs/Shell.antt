-- A call by value is the call on lent arrays, with the state put together again.
use mathlib.Core.Path.{◌≡◌, refl, ap, ◌∙◌}
use mathlib.Core.List.{List}
use Prim.Native.Nat.{ℕ}
use lib.IntN.{ℤ}
use lib.ListN.{replicate}
use Rattle.undo_log.specs.declared.Cursor.{Cursor}
use Rattle.reasons.specs.declared.reason.Reason.{Reason}
use Rattle.plan.specs.Words.{words_of}
use Rattle.recorded.specs.Recorded.{reason_at}
use Rattle.analysis.specs.Placed.{place_of_lit}
use Rattle.refusals.specs.Refusals.{lit_number}
use Rattle.graph_division.specs.declared.GraphDivision.{GraphDivision}
use Rattle.graph_division.specs.declared.Answer.{Answer}
use Rattle.graph_division.specs.Calls.{called, outcome, with_noted, propagated, undone, Fetched, recorded_for, reason_fetched, last_fetched, run_fetched, page_fetched}
use Rattle.graph_division.specs.Initialize.{initialized}
use Rattle.lent.specs.declared.Done.{Done}
use Rattle.lent.specs.Lent.{Parts, state_after, called_of, begun_after, begun_of, propagated_over, initialized_over, reason_fetched_by}
use Rattle.lent.proofs.Parting.{over_zeros, begun_over_zeros, of_recorded}

module _ (s : GraphDivision) (c : Cursor) (es : List (List ℕ)) (g : es ≡ s.edges.ends) (b : List ℕ) (w : words_of b ≡ s.plan) where
  -- the state's fields are its parts, the plan as bytes
  parts : Parts s (words_of b) es s.noted
  parts = record { plan = w; edges = g; noted = refl }

  module _ (z : GraphDivision) (words₀ : List ℕ) (o : words₀ ≡ replicate 8772 0) (noted words left : List ℕ) (d : Done) (t₀ list₀ log₀ t list log : List ℕ) where
    pub propagate_shell : (left₀ : List ℕ) (lit lit' pending pending' : ℤ) → left₀ ≡ replicate 260 0 → lit' ≡ lit → pending' ≡ pending → z ≡ state_after s noted words left d →
        ((x : GraphDivision) → Parts x (words_of b) es s.noted → called_of x noted words left d t list log ≡ propagated_over x c words₀ left₀ lit' pending' t₀ list₀ log₀) →
        called (outcome z d.cursor d.answer) t list log ≡ propagated s c lit pending t₀ list₀ log₀
    unfolding called_of
    propagate_shell left₀ lit lit' pending pending' l a b e h =
        ap (λ (y : GraphDivision). called (outcome y d.cursor d.answer) t list log) e
        ∙ (h s parts ∙ ((λ i. propagated_over s c (o i) (l i) (a i) (b i) t₀ list₀ log₀) ∙ over_zeros s c lit pending t₀ list₀ log₀))

    pub initialize_shell : z ≡ begun_after s noted words left d →
        ((x : GraphDivision) → Parts x (words_of b) es s.noted → s.last ≡ x.last → s.last_len ≡ x.last_len → s.initialized ≡ x.initialized →
        begun_of x noted words left d t list log ≡ initialized_over x c words₀ t₀ log₀ list₀) →
        called (outcome z d.cursor d.answer) t list log ≡ initialized s c t₀ log₀ list₀
    unfolding begun_of
    initialize_shell e h =
        ap (λ (y : GraphDivision). called (outcome y d.cursor d.answer) t list log) e
        ∙ (h s parts refl refl refl ∙ (ap (λ (w : List ℕ). initialized_over s c w t₀ log₀ list₀) o ∙ begun_over_zeros s c t₀ log₀ list₀))

  pub undo_shell : (noted : List ℕ) (d : Cursor) (y : Answer) (log : List ℕ) (lit lit' : ℤ) → lit' ≡ lit →
      ((x : GraphDivision) → Parts x (words_of b) es s.noted → outcome (with_noted noted x) d y ≡ undone x c lit' log) → outcome (with_noted noted s) d y ≡ undone s c lit log
  undo_shell noted d y log lit lit' a h = h s parts ∙ ap (λ (k : ℤ). undone s c k log) a

  pub last_shell : (y : Fetched) (log out : List ℕ) →
      ((x : GraphDivision) → Parts x (words_of b) es s.noted → s.last ≡ x.last → s.last_len ≡ x.last_len → y ≡ last_fetched x c log out) → y ≡ last_fetched s c log out
  last_shell y log out h = h s parts refl refl

  pub run_shell : (y : Fetched) (log out : List ℕ) (from to from' to' : ℤ) → from' ≡ from → to' ≡ to →
      ((x : GraphDivision) → Parts x (words_of b) es s.noted → y ≡ run_fetched x c log from' to' out) → y ≡ run_fetched s c log from to out
  run_shell y log out from to from' to' p q h = h s parts ∙ (λ i. run_fetched s c log (p i) (q i) out)

  pub page_shell : (y : Fetched) (log out : List ℕ) →
      ((x : GraphDivision) → Parts x (words_of b) es s.noted → y ≡ page_fetched x c log out) → y ≡ page_fetched s c log out
  page_shell y log out h = h s parts

  pub reason_shell : (y : Fetched) (log out : List ℕ) (lit lit' : ℤ) (l p : ℕ) (r : Reason) → lit' ≡ lit → l ≡ lit_number lit' → p ≡ place_of_lit (words_of b) l → r ≡ reason_at s.reasons p →
      ((x : GraphDivision) → Parts x (words_of b) es s.noted → y ≡ reason_fetched_by x c log lit' r out) → y ≡ reason_fetched s c log lit out
  unfolding recorded_for
  reason_shell y log out lit lit' l p r a m q k h =
      let f : r ≡ recorded_for s (lit_number lit) = k ∙ ap (reason_at s.reasons) (q ∙ (λ i. place_of_lit (w i) ((m ∙ ap lit_number a) i))) in
      h s parts ∙ ((λ i. reason_fetched_by s c log (a i) (f i) out) ∙ of_recorded s c log lit out)
