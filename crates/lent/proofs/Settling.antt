-- A notification that is analyzed, by what the judgement is.
use mathlib.Core.Path.{◌≡◌, refl, sym, ap, ap₂, ◌∙◌}
use mathlib.Core.List.{List, [], ◌∷◌}
use Prim.Native.Nat.{ℕ}
use Rattle.undo_log.specs.declared.Cursor.{Cursor}
use Rattle.sweep.specs.Sweep.{Handed, handing, handed_on}
use Rattle.judge.specs.declared.Judgement.{Judgement}
use Rattle.judge.specs.declared.Judgement.TheVariants.{Fine, Clash, Stopped}
use Rattle.judge.specs.Judge.{Judged, judged_of, judge_words}
use Rattle.graph_division.specs.declared.GraphDivision.{GraphDivision}
use Rattle.graph_division.specs.declared.Outcome.{Outcome}
use Rattle.graph_division.specs.declared.Answer.{Answer}
use Rattle.graph_division.specs.declared.Answer.TheVariants as answer
use Rattle.graph_division.specs.Calls.{Called, called, refuse, tried_out, accepting, handing_on, with_judged, settled_by}
use Rattle.lent.specs.Lent.{settled_over}

-- the table and the list stand beside what is written at the end
pub beside : (s : GraphDivision) (c : Cursor) (l len : ℕ) (j : Judgement) (p left : List ℕ) (k : Judgement) (a : Answer) (o : Outcome) (t list log after : List ℕ) →
    called o [] [] after ≡ accepting s c l (judged_of k p left) len a [] [] log → called o t list after ≡ accepting s c l (judged_of j p left) len a t list log
unfolding accepting with_judged
beside s c l len j p left k a o t list log after e = ap (λ (x : Called). called x.outcome t list x.log) e

module _ (s : GraphDivision) (c : Cursor) (p₀ left₀ : List ℕ) (l : ℕ) (t list log : List ℕ) (r : Judgement) (p left : List ℕ)
    (e : judged_of r p left ≡ judge_words s.plan s.edges.ends (tried_out s c l) t p₀ left₀) where
  by_judgement : settled_by s c l (judged_of r p left) r t list log ≡ settled_over s c p₀ left₀ l t list log
  unfolding settled_over
  by_judgement = ap (λ (j : Judged). settled_by s c l j j.judgement t list log) e

  pub settle_fine : (o : Outcome) (u m after : List ℕ) (h : ℕ) → r ≡ Fine → handing u m h ≡ handed_on s.plan p (handing t list 0) →
      called o [] [] after ≡ accepting s c l (judged_of Fine p left) 0 (answer.Consistent h) [] [] log → called o u m after ≡ settled_over s c p₀ left₀ l t list log
  unfolding settled_by handing_on
  settle_fine o u m after h f g a =
      beside s c l 0 r p left Fine (answer.Consistent h) o u m log after a
      ∙ (ap (λ (x : Handed). handing_on s c l (judged_of r p left) x log) g ∙ (ap (λ (k : Judgement). settled_by s c l (judged_of r p left) k t list log) (sym f) ∙ by_judgement))

  pub settle_clash : (o : Outcome) (after : List ℕ) (len : ℕ) → r ≡ Clash len →
      called o [] [] after ≡ accepting s c l (judged_of Fine p left) len answer.Conflict [] [] log → called o t list after ≡ settled_over s c p₀ left₀ l t list log
  unfolding settled_by
  settle_clash o after len f a =
      beside s c l len r p left Fine answer.Conflict o t list log after a ∙ (ap (λ (k : Judgement). settled_by s c l (judged_of r p left) k t list log) (sym f) ∙ by_judgement)

  pub settle_stopped : (o : Outcome) (n : ℕ) → r ≡ Stopped n → o ≡ refuse n s c → called o t list log ≡ settled_over s c p₀ left₀ l t list log
  unfolding settled_by
  settle_stopped o n f a = ap (λ (x : Outcome). called x t list log) a ∙ (ap (λ (k : Judgement). settled_by s c l (judged_of r p left) k t list log) (sym f) ∙ by_judgement)
