-- `propagate` does what the definition says.
use mathlib.Core.Path.{◌≡◌, refl, sym, ap, ap₂, ◌∙◌}
use mathlib.Core.Bool.{not}
use mathlib.Core.List.{List, [], ◌∷◌}
use Prim.Native.Nat.{ℕ, ◌+◌, ◌*◌, ◌≤◌, zero-le}
use native.Mathlib.Omega.{arith}
use native.Mathlib.Nat.{zero-add}
use lib.Dec.{eqb}
use lib.IntN.{ℤ, pos}
use lib.ListN.{length, replicate, length-replicate}
use lib.Seq.{sets}
use borrow.Author.Tests.{eqb-true, ltb-false}
use Rattle.base.specs.Range.{in_range}
use Rattle.base.proofs.Loop.{pick_yes, pick_no, tested}
use Rattle.undo_log.specs.declared.Cursor.{Cursor}
use Rattle.plan.specs.Words.{variables_of, variable_at}
use Rattle.noting.specs.Note.{Noting, noting}
use Rattle.noting.specs.Buffers.{list_short}
use Rattle.noting.specs.Standing.{standing_of}
use Rattle.noting.specs.Good.{GoodLog}
use Rattle.noting.proofs.Valid.{note_valid}
use Rattle.sweep.specs.Sweep.{Handed, handing}
use Rattle.judge.specs.declared.Judgement.{Judgement}
use Rattle.judge.specs.Judge.{Judged, judge_words}
use Rattle.judge.specs.Answers as judging
use Rattle.calls.specs.Look as look
use Rattle.calls.specs.Look.{Looked, looked}
use Rattle.calls.specs.Calls as calls
use Rattle.calls.specs.Calls.{World}
use Rattle.calls.proofs.View.{saw}
use Rattle.refusals.specs.Refusals.{lit_number, propagate_refusal}
use Rattle.refusals.specs.Calls.{lit_given, table_room, refused_or}
use Rattle.refusals.proofs.Accepted.{propagate_accepted}
use Rattle.refusals.proofs.Calls.{propagate_call}
use Rattle.graph_division.specs.declared.GraphDivision.{GraphDivision}
use Rattle.graph_division.specs.declared.Answer.TheVariants as answer
use Rattle.graph_division.specs.Calls.{with_noted, with_judged, noted_in, adding, accepting, handing_on, settled_by, settled, propagated}
use Rattle.graph_division.specs.Outcomes.{answer_for, answer_of}
use Rattle.simulation.specs.Start.{state_plan}
use Rattle.simulation.specs.Represents.{Represents, SimulatesCalled}
use Rattle.simulation.proofs.Represents.{noted_represents, called_by, refused_called}
use Rattle.simulation.proofs.Noted.{tried_out_is}
use Rattle.simulation.proofs.Looked.{clash_still, unset_most, looked_count, offered_listed}
use Rattle.simulation.proofs.Notifying.{judged_in, Analyzed, analyzed}

module _ (s : GraphDivision) (log : List ℕ) (c : Cursor) (w : World) (r : Represents s log c w) (lit : ℤ) (t list : List ℕ) where
  abbrev ws : List ℕ
  ws = s.plan

  abbrev ends : List (List ℕ)
  ends = s.edges.ends

  abbrev number : ℕ
  number = propagate_refusal ws ends s.noted t (length list) log c lit

  abbrev l : ℕ
  l = lit_number lit

  -- what stands then
  abbrev ls : List ℕ
  ls = lit_given lit ∷ w.standing

  abbrev lk : Looked
  lk = looked (state_plan s) ls t

  module _ (e : number ≡ 0) where
    abbrev after : Noting
    after = noted_in s c l log

    noted_valid : GoodLog ws after × (ls ≡ standing_of after)
    unfolding noted_in
    noted_valid =
        let (g, k, h) = propagate_accepted ws ends s.noted log c r.valid.words t (length list) lit e in
        let (v, q) = note_valid ws ends r.proper (noting s.noted log c) r.valid l k.is_known h in
        (v, ap₂ (λ (a : ℕ) (m : List ℕ). a ∷ m) (sym k.number) r.standing ∙ sym q)

    list_long : 0 + 2 * variables_of ws ≤ length list
    unfolding list_short
    list_long =
        let (g, k, h) = propagate_accepted ws ends s.noted log c r.valid.words t (length list) lit e in
        omega (arith, ltb-false (length list) (2 * variables_of ws) g.list)

    only_noted : SimulatesCalled s list (adding s c l t list log) (record { answer = calls.noted; world = calls.adding w (lit_given lit); table = t; handed = [] })
    unfolding adding calls.adding answer_of answer_for with_noted
    only_noted = record {
      call = record { answer = refl; represents = noted_represents s log c w r after noted_valid.0 ls noted_valid.1; plan = refl; edges = refl };
      table = refl;
      list = refl;
      fits = zero-le;
    }

    words_long : 68 + 4 * variables_of ws ≤ length (replicate {A = ℕ} 8772 0)
    words_long = omega (arith, r.proper.few, length-replicate {A = ℕ} 8772 0)

    abbrev j : Judged
    j = judged_in s after t (replicate 8772 0) (replicate 260 0)

    notified : Analyzed s w after ls t (replicate 8772 0) (replicate 260 0) j lk
    notified = analyzed s log c w r after ls noted_valid.0 noted_valid.1 t (replicate 8772 0) (replicate 260 0) words_long (length-replicate {A = ℕ} 260 0)

    -- no more is handed on than there are variables
    handed_fits : length lk.handed ≤ length list
    handed_fits =
        let (g, k, h) = propagate_accepted ws ends s.noted log c r.valid.words t (length list) lit e in
        let x = looked_count (variable_at ws) (variables_of ws) (state_plan s) ls t (saw (state_plan s) ls t) (offered_listed ws ends r.proper t g.table (length t) refl ls notified.consistent) in
        let y = unset_most (variable_at ws) (variables_of ws) t in
        omega (arith, list_long)

    all_handed : lk.judgement ≡ look.fine → SimulatesCalled s list (handing_on s c l j (handing lk.table (sets list 0 lk.handed) (0 + length lk.handed)) log) (calls.settled_by w t (lit_given lit) lk look.fine)
    unfolding handing_on accepting calls.settled_by calls.noting answer_of answer_for with_judged noted_in
    all_handed q = record {
      call = record {
        answer = ap answer.Consistent (zero-add (length lk.handed));
        represents = notified.fine q;
        plan = refl;
        edges = refl;
      };
      table = refl;
      list = refl;
      fits = handed_fits;
    }

    conflicting : lk.judgement ≡ look.clash → SimulatesCalled s list (accepting s c l j (length lk.left) answer.Conflict t list log) (calls.settled_by w t (lit_given lit) lk look.clash)
    unfolding accepting calls.settled_by calls.noting answer_of answer_for with_judged noted_in
    conflicting q =
        let (u, v) = clash_still (state_plan s) ls t (saw (state_plan s) ls t) q in
        record {
          call = record {
            answer = refl;
            represents = notified.clash q;
            plan = refl;
            edges = refl;
          };
          table = sym u;
          list = ap (sets list 0) (sym v);
          fits = handed_fits;
        }

    settled_by_lem : (y : look.Judgement) → lk.judgement ≡ y → SimulatesCalled s list (settled_by s c l j (judging.answer_for y (length lk.left)) t list log) (calls.settled_by w t (lit_given lit) lk y)
    unfolding settled_by judging.answer_for calls.settled_by
    settled_by_lem look.fine q = called_by s list (ap (λ (h : Handed). handing_on s c l j h log) (notified.handed q list 0 list_long)) refl (all_handed q)
    settled_by_lem look.clash q = conflicting q
    settled_by_lem (look.stopped n) q = refused_called s log c w r n t list

    -- what is noted is tried out with no log
    tried : settled s c l t list log ≡ settled_by s c l j j.judgement t list log
    unfolding settled
    tried =
        ap (λ (m : List ℕ). settled_by s c l (judge_words ws ends m t (replicate 8772 0) (replicate 260 0)) (judge_words ws ends m t (replicate 8772 0) (replicate 260 0)).judgement t list log)
        (tried_out_is s c l log)

    settles : SimulatesCalled s list (settled s c l t list log) (calls.settled (state_plan s) w t (lit_given lit))
    unfolding calls.settled
    settles = called_by s list (tried ∙ ap (λ (y : Judgement). settled_by s c l j y t list log) notified.judged.answer) refl (settled_by_lem lk.judgement refl)

  pub propagate_simulated : (pending : ℤ) →
      SimulatesCalled s list (propagated s c lit pending t list log) (calls.on_propagate (state_plan s) w (table_room ws ends s.noted (length list) log c) t (lit_given lit) (not (in_range (pos 0) pending)))
  unfolding propagated refused_or
  propagate_simulated pending =
      let f = propagate_call ws ends r.proper s.noted log c w r.standing lit t (length list) (not (in_range (pos 0) pending)) in
      tested (eqb number 0)
      (λ y. let e = eqb-true number 0 y in tested (in_range (pos 0) pending)
      (λ i. called_by s list (pick_yes _ _ y ∙ pick_yes _ _ i) (f ∙ pick_yes _ _ y ∙ pick_no _ _ (ap not i)) (settles e))
      (λ i. called_by s list (pick_yes _ _ y ∙ pick_no _ _ i) (f ∙ pick_yes _ _ y ∙ pick_yes _ _ (ap not i)) (only_noted e)))
      (λ y. called_by s list (pick_no _ _ y) (f ∙ pick_no _ _ y) (refused_called s log c w r number t list))
