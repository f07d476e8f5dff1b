-- What an initialise on lent arrays leaves is what the one on the state does, by how it ends.
use mathlib.Core.Path.{◌≡◌, sym, ap, ◌∙◌}
use mathlib.Core.Bool.{true}
use mathlib.Core.List.{List, []}
use Prim.Native.Nat.{ℕ}
use lib.ListN.{length}
use borrow.Author.Tests.{eq-eqb, ne_eqb}
use Rattle.base.proofs.Loop.{pick_yes, pick_no}
use Rattle.undo_log.specs.declared.Cursor.{Cursor}
use Rattle.noting.specs.Note.{Noting, noting}
use Rattle.judge.specs.declared.Judgement.TheVariants.{Fine}
use Rattle.judge.specs.Judge.{judged_of}
use Rattle.notifications.specs.declared.Progress.{Progress}
use Rattle.refusals.specs.Refusals.{initialize_refusal}
use Rattle.graph_division.specs.declared.GraphDivision.{GraphDivision}
use Rattle.graph_division.specs.declared.Answer.{Answer}
use Rattle.graph_division.specs.Calls.{Called, called, outcome, refuse, with_judged}
use Rattle.graph_division.specs.Initialize.{noted_up_to, taken_over}
use Rattle.lent.specs.Lent.{with_initialized, begun_over, initialized_over}

-- what was tried out is taken over
module _ (s : GraphDivision) (c : Cursor) (entry log words left : List ℕ) (x : Progress) (noted after : List ℕ) (d : Cursor)
    (e : noting noted after d ≡ noted_up_to s.plan entry x.past (noting s.noted log c)) (a : Answer) where
  pub taken_done : called (outcome (with_initialized (with_judged noted (judged_of Fine words left) x.len s)) d a) [] [] after ≡ taken_over s c entry log words left x true a
  unfolding taken_over with_initialized with_judged
  taken_done = ap (λ (y : Noting). called (outcome (with_initialized (with_judged y.noted (judged_of Fine words left) x.len s)) y.cursor a) [] [] y.log) e

  pub taken_over_lem : called (outcome (with_judged noted (judged_of Fine words left) x.len s) d a) [] [] after ≡ taken_over s c entry log words left x s.initialized a
  unfolding taken_over with_judged
  taken_over_lem = ap (λ (y : Noting). called (outcome (with_judged y.noted (judged_of Fine words left) x.len s) y.cursor a) [] [] y.log) e

-- by what is tested first
module _ (s : GraphDivision) (c : Cursor) (words t log list : List ℕ) (n : ℕ)
    (e : n ≡ initialize_refusal s.plan s.edges.ends s.noted t (length list) log c s.initialized) where
  pub is_begun : (x : Called) → n ≡ 0 →
      (initialize_refusal s.plan s.edges.ends s.noted t (length list) log c s.initialized ≡ 0 → x ≡ begun_over s c words t log list) → x ≡ initialized_over s c words t log list
  unfolding initialized_over
  is_begun x z h = h (sym e ∙ z) ∙ sym (pick_yes _ _ (eq-eqb _ _ (sym e ∙ z)))

  pub is_refused : (n ≡ 0 → ⊥) → called (refuse n s c) t list log ≡ initialized_over s c words t log list
  unfolding initialized_over
  is_refused z = ap (λ (k : ℕ). called (refuse k s c) t list log) e
      ∙ sym (pick_no _ _ (ne_eqb _ _ (λ (f : initialize_refusal s.plan s.edges.ends s.noted t (length list) log c s.initialized ≡ 0). z (e ∙ f))))
