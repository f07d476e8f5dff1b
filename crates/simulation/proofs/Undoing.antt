-- `undo` does what the definition says.
use mathlib.Core.Path.{◌≡◌, refl, sym, ap, subst, ◌∙◌}
use mathlib.Core.List.{List, []}
use Prim.Native.Nat.{ℕ}
use lib.Dec.{eqb}
use lib.IntN.{ℤ}
use borrow.Author.Tests.{eqb-true}
use Rattle.base.proofs.Loop.{pick_yes, pick_no, tested}
use Rattle.undo_log.specs.declared.Cursor.{Cursor}
use Rattle.noting.specs.Note.{Noting, noting}
use Rattle.noting.specs.Undo.{undo}
use Rattle.noting.proofs.Valid.{undo_valid}
use Rattle.calls.specs.Calls as calls
use Rattle.calls.specs.Calls.{World}
use Rattle.calls.specs.Claim.{tail}
use Rattle.refusals.specs.Refusals.{lit_number, undo_refusal}
use Rattle.refusals.specs.Calls.{lit_given, state_room, refused_or, taken_back}
use Rattle.refusals.proofs.Accepted.{undo_accepted}
use Rattle.refusals.proofs.Calls.{undo_call}
use Rattle.graph_division.specs.declared.GraphDivision.{GraphDivision}
use Rattle.graph_division.specs.declared.Outcome.{Outcome}
use Rattle.graph_division.specs.declared.Answer.TheVariants as answer
use Rattle.graph_division.specs.Calls.{outcome, with_noted, undone}
use Rattle.graph_division.specs.Outcomes.{answer_for, answer_of}
use Rattle.simulation.specs.Start.{state_plan}
use Rattle.simulation.specs.Represents.{Represents, Simulates}
use Rattle.simulation.proofs.Represents.{noted_represents, refused_simulates}

-- outcomes that are equal to ones that simulate
pub simulates_by : (s : GraphDivision) (log : List ℕ) {y z : Outcome} {o q : calls.Outcome} → y ≡ z → o ≡ q → Simulates s z log q → Simulates s y log o
simulates_by s log {z = z} {o = o} a b h = subst (λ (y : Outcome). Simulates s y log o) (sym a) (subst (Simulates s z log) (sym b) h)

module _ (s : GraphDivision) (log : List ℕ) (c : Cursor) (w : World) (r : Represents s log c w) (lit : ℤ) where
  abbrev x : Noting
  x = noting s.noted log c

  abbrev number : ℕ
  number = undo_refusal s.plan s.edges.ends s.noted log c lit

  taken_back_lem : number ≡ 0 → Simulates s (outcome (with_noted (undo x).noted s) (undo x).cursor answer.Undone) log (taken_back w w.standing)
  unfolding taken_back tail answer_of answer_for with_noted undo
  taken_back_lem e =
      let (g, k, (ls, h)) = undo_accepted s.plan s.edges.ends s.noted log c r.valid.words lit e in
      let (v, q) = undo_valid s.plan s.edges.ends r.proper x r.valid (lit_number lit) ls h in
      record {
        answer = refl;
        represents = noted_represents s log c w r (undo x) v (tail w.standing) (ap tail (r.standing ∙ h) ∙ sym q);
        plan = refl;
        edges = refl;
      }

  pub undo_simulated : Simulates s (undone s c lit log) log (calls.on_undo (state_plan s) w (state_room s.plan s.edges.ends s.noted log c) (lit_given lit))
  unfolding undone refused_or
  undo_simulated =
      let f = undo_call s.plan s.edges.ends r.proper s.noted log c w r.standing lit in
      tested (eqb number 0)
      (λ t. simulates_by s log (pick_yes _ _ t) (f ∙ pick_yes _ _ t) (taken_back_lem (eqb-true number 0 t)))
      (λ t. simulates_by s log (pick_no _ _ t) (f ∙ pick_no _ _ t) (refused_simulates s log c w r number []))
