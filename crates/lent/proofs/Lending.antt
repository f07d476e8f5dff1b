-- What a call on lent arrays leaves is what the call on the state does, by how it ends.
use mathlib.Core.Path.{◌≡◌, refl, sym, ap, ◌∙◌}
use mathlib.Core.Bool.{Bool, true, false}
use mathlib.Core.List.{List, []}
use Prim.Native.Nat.{ℕ}
use lib.Dec.{eqb}
use lib.IntN.{ℤ, pos}
use lib.ListN.{length}
use borrow.Author.Tests.{eq-eqb, ne_eqb}
use Rattle.base.proofs.Loop.{pick_yes, pick_no}
use Rattle.base.specs.Range.{in_range}
use Rattle.undo_log.specs.declared.Cursor.{Cursor}
use Rattle.noting.specs.Note.{Noting, noting, note}
use Rattle.noting.specs.Undo.{undo}
use Rattle.judge.specs.declared.Judgement.TheVariants.{Fine}
use Rattle.judge.specs.Judge.{judged_of}
use Rattle.refusals.specs.Refusals.{lit_number, propagate_refusal, undo_refusal}
use Rattle.graph_division.specs.declared.GraphDivision.{GraphDivision}
use Rattle.graph_division.specs.declared.Answer.{Answer}
use Rattle.graph_division.specs.declared.Answer.TheVariants as answer
use Rattle.graph_division.specs.Calls.{Called, called, outcome, refuse, with_noted, with_judged, noted_in, adding, accepting, undone}
use Rattle.lent.specs.Lent.{settled_over, propagated_over}

module _ (s : GraphDivision) (c : Cursor) where
  pub noted_judged : (l len : ℕ) (a : Answer) (words p left log after : List ℕ) (d : Cursor) →
      noting words after d ≡ note s.plan l (noting s.noted log c) →
      called (outcome (with_judged words (judged_of Fine p left) len s) d a) [] [] after ≡ accepting s c l (judged_of Fine p left) len a [] [] log
  unfolding accepting noted_in
  noted_judged l len a words p left log after d e =
      ap (λ (x : Noting). called (outcome (with_judged x.noted (judged_of Fine p left) len s) x.cursor a) [] [] x.log) e

  pub noted_only : (l : ℕ) (words t list log after : List ℕ) (d : Cursor) →
      noting words after d ≡ note s.plan l (noting s.noted log c) →
      called (outcome (with_noted words s) d answer.Noted) t list after ≡ adding s c l t list log
  unfolding adding noted_in
  noted_only l words t list log after d e = ap (λ (x : Noting). called (outcome (with_noted x.noted s) x.cursor answer.Noted) t list x.log) e

  -- a notification, by what is tested first
  module _ (p left : List ℕ) (lit pending : ℤ) (t list log : List ℕ) (n : ℕ) (e : n ≡ propagate_refusal s.plan s.edges.ends s.noted t (length list) log c lit) where
    pub is_settled : (l : ℕ) (x : Called) → l ≡ lit_number lit → n ≡ 0 → in_range (pos 0) pending ≡ true → x ≡ settled_over s c p left l t list log → x ≡ propagated_over s c p left lit pending t list log
    unfolding propagated_over
    is_settled l x f z i h =
        h ∙ (ap (λ (k : ℕ). settled_over s c p left k t list log) f
        ∙ sym (pick_yes _ _ (eq-eqb _ _ (sym e ∙ z)) ∙ pick_yes _ _ i))

    pub is_added : (l : ℕ) (x : Called) → l ≡ lit_number lit → n ≡ 0 → in_range (pos 0) pending ≡ false → x ≡ adding s c l t list log → x ≡ propagated_over s c p left lit pending t list log
    unfolding propagated_over
    is_added l x f z i h =
        h ∙ (ap (λ (k : ℕ). adding s c k t list log) f
        ∙ sym (pick_yes _ _ (eq-eqb _ _ (sym e ∙ z)) ∙ pick_no _ _ i))

    pub is_refused : (n ≡ 0 → ⊥) → called (refuse n s c) t list log ≡ propagated_over s c p left lit pending t list log
    unfolding propagated_over
    is_refused z = ap (λ (k : ℕ). called (refuse k s c) t list log) e ∙ sym (pick_no _ _ (ne_eqb _ _ (λ (f : propagate_refusal s.plan s.edges.ends s.noted t (length list) log c lit ≡ 0). z (e ∙ f))))

  module _ (lit : ℤ) (log : List ℕ) (n : ℕ) (e : n ≡ undo_refusal s.plan s.edges.ends s.noted log c lit) where
    pub is_undone : (words : List ℕ) (d : Cursor) → n ≡ 0 → noting words log d ≡ undo (noting s.noted log c) → outcome (with_noted words s) d answer.Undone ≡ undone s c lit log
    unfolding undone
    is_undone words d z h = ap (λ (x : Noting). outcome (with_noted x.noted s) x.cursor answer.Undone) h ∙ sym (pick_yes _ _ (eq-eqb _ _ (sym e ∙ z)))

    pub undo_refused : (n ≡ 0 → ⊥) → refuse n s c ≡ undone s c lit log
    unfolding undone
    undo_refused z = ap (λ (k : ℕ). refuse k s c) e ∙ sym (pick_no _ _ (ne_eqb _ _ (λ (f : undo_refusal s.plan s.edges.ends s.noted log c lit ≡ 0). z (e ∙ f))))
