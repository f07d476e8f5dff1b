-- The calls of crate calls, whatever they are lent, by the numbers that the tests answer: refused with the number, or what is done
-- where it is 0.
use mathlib.Core.Path.{◌≡◌, refl, sym, ap, ◌∙◌}
use mathlib.Core.Bool.{Bool, true, false, not, ◌||◌, not-not}
use mathlib.Core.List.{List, []}
use Prim.Native.Nat.{ℕ}
use lib.Dec.{eqb}
use lib.IntN.{ℤ}
use Rattle.base.specs.Iter.{pick}
use Rattle.base.proofs.Loop.{pick_no}
use Rattle.undo_log.specs.declared.Cursor.{Cursor}
use Rattle.plan.specs.Plan.{plan_of}
use Rattle.plan.specs.Proper.{ProperWords}
use Rattle.division.specs.Plan.{Plan}
use Rattle.division.specs.Runs.{reason_of}
use Rattle.noting.specs.Note.{noting}
use Rattle.noting.specs.Standing.{not_newest, standing_of}
use Rattle.noting.specs.Buffers.{reason_short}
use Rattle.calls.specs.Table.{knows, bad_table, entered}
use Rattle.calls.specs.Calls.{World, Query, reason_for, page, Answer, noted, refused, Outcome, refuse, taken, adding, settled, Going, entry, propagate_all, finish_by, give_reason, answer_to, tell, on_initialize, on_propagate, on_undo, on_ask}
use Rattle.refusals.specs.Refusals.{state_bad, literal_refusal, initialize_refusal, propagate_refusal, undo_refusal, fetch_refusal}
use Rattle.refusals.specs.Calls.{lit_given, table_room, state_room, fetch_room, refused_or, taken_back}
use Rattle.refusals.proofs.Standing.{newest_is}
use Rattle.refusals.proofs.Numbers.{given_small, literal_is, initialize_is, fetch_is, propagate_is, undo_is}

-- the choices, over plain tests
module _ (w : World) (t : List ℕ) (o : Outcome) where
  one_case : (k : ℕ) (a : Bool) → eqb k 0 ≡ false → pick a (refuse k w t) o ≡ refused_or (pick a k 0) w t o
  unfolding pick refused_or
  one_case k true e = sym (pick_no _ _ e)
  one_case k false e = refl

  two_case : (k : ℕ) (a b : Bool) → eqb k 0 ≡ false → pick a (refuse 7 w t) (pick b (refuse k w t) o) ≡ refused_or (pick a 7 (pick b k 0)) w t o
  unfolding pick refused_or
  two_case k true b e = refl
  two_case k false b e = one_case k b e

  three_case : (k : ℕ) (a b c : Bool) → eqb k 0 ≡ false → pick a (refuse 7 w t) (pick b (refuse 9 w t) (pick c (refuse k w t) o)) ≡ refused_or (pick a 7 (pick b 9 (pick c k 0))) w t o
  unfolding pick refused_or
  three_case k true b c e = refl
  three_case k false true c e = refl
  three_case k false false c e = one_case k c e

-- a query's answer behind a test
told_case : (w : World) (b : Bool) (n : ℕ) (a : Answer) → tell w (pick b (refused n) a) ≡ pick b (refuse n w []) (tell w a)
unfolding pick tell refuse
told_case w true n a = refl
told_case w false n a = refl

-- 7 before a test that depends on the state
then_case : (s h : Bool) (a b : Outcome) (w : World) → (s ≡ false → a ≡ b) → pick (not (not (s || h))) (refuse 7 w []) a ≡ refused_or (pick (s || h) 7 0) w [] b
unfolding pick refused_or
then_case true h a b w f = refl
then_case false true a b w f = refl
then_case false false a b w f = f refl

module _ (ws : List ℕ) (ends : List (List ℕ)) (p : ProperWords ws ends) (words log : List ℕ) (c : Cursor) (w : World) where
  abbrev d : Plan
  d = plan_of ws ends

  -- initialize's notifications, one by one
  abbrev all : List ℕ → Going
  all t = propagate_all d (entered d t) (entry w t)

  pub initialize_call : (t : List ℕ) (n : ℕ) →
      on_initialize d w (table_room ws ends words n log c) t ≡ refused_or (initialize_refusal ws ends words t n log c w.done) w t (finish_by d w t (all t) (all t).judgement)
  unfolding on_initialize
  initialize_call t n =
      two_case w t (finish_by d w t (all t) (all t).judgement) 8 (not (table_room ws ends words n log c) || bad_table d t) w.done refl
      ∙ sym (ap (λ (k : ℕ). refused_or k w t (finish_by d w t (all t) (all t).judgement)) (initialize_is ws ends p words log c w t n))

  pub ask_call : (n : ℕ) (q : Query) → on_ask d w (fetch_room ws ends words n log c) q ≡ refused_or (fetch_refusal ws ends words n log c) w [] (tell w (answer_to d w q))
  unfolding on_ask
  ask_call n q =
      told_case w (not (fetch_room ws ends words n log c)) 7 _
      ∙ one_case w [] (tell w (answer_to d w q)) 7 (not (fetch_room ws ends words n log c)) refl ∙ sym (ap (λ (k : ℕ). refused_or k w [] (tell w (answer_to d w q))) (fetch_is ws ends p words log c w n))

  -- the page, whose buffer 7 asks nothing of
  pub page_call : (n : ℕ) →
      on_ask d w (state_room ws ends words log c) (page n)
      ≡ pick (state_bad ws ends words log c) (refuse 7 w []) (tell w (answer_to d w (page n)))
  unfolding on_ask state_room
  page_call n =
      told_case w (not (not (state_bad ws ends words log c))) 7 _
      ∙ ap (λ (b : Bool). pick b (refuse 7 w []) (tell w (answer_to d w (page n)))) (not-not _)

  pub reason_call : (n : ℕ) (l : ℤ) →
      on_ask d w (fetch_room ws ends words n log c) (reason_for (lit_given l))
      ≡ refused_or (fetch_refusal ws ends words n log c) w [] (refused_or (literal_refusal ws l) w [] (tell w (give_reason d w (reason_of (lit_given l) w.reasons))))
  unfolding on_ask answer_to fetch_room fetch_refusal
  reason_call n l = told_case w (not (fetch_room ws ends words n log c)) 7 _ ∙ then_case (state_bad ws ends words log c) (reason_short ws n) _ _ w (λ _.
      told_case w (not (knows d (lit_given l))) 9 _ ∙ one_case w [] (tell w (give_reason d w (reason_of (lit_given l) w.reasons))) 9 (not (knows d (lit_given l))) refl
      ∙ sym (ap (λ (k : ℕ). refused_or k w [] (tell w (give_reason d w (reason_of (lit_given l) w.reasons)))) (literal_is ws ends p l)))

  module _ (s : w.standing ≡ standing_of (noting words log c)) (l : ℤ) where
    -- what is done with a literal that is not refused
    abbrev told : List ℕ → Bool → Outcome
    told t pending = pick pending (record { answer = noted; world = adding w (lit_given l); table = t; handed = [] }) (settled d w t (lit_given l))

    pub propagate_call : (t : List ℕ) (n : ℕ) (pending : Bool) →
        on_propagate d w (table_room ws ends words n log c) t (lit_given l) pending
        ≡ refused_or (propagate_refusal ws ends words t n log c l) w t
        (pick pending (record { answer = noted; world = adding w (lit_given l); table = t; handed = [] }) (settled d w t (lit_given l)))
    unfolding on_propagate
    propagate_call t n pending =
        three_case w t (told t pending) 10 (not (table_room ws ends words n log c) || bad_table d t) (not (knows d (lit_given l))) (taken w (lit_given l)) refl
        ∙ sym (ap (λ (k : ℕ). refused_or k w t (told t pending)) (propagate_is ws ends p words log c w s l t n))

    pub undo_call : on_undo d w (state_room ws ends words log c) (lit_given l) ≡ refused_or (undo_refusal ws ends words log c l) w [] (taken_back w w.standing)
    unfolding on_undo
    undo_call =
        ap (λ (o : Outcome). pick (not (state_room ws ends words log c)) (refuse 7 w []) (pick (not (knows d (lit_given l))) (refuse 9 w []) o)) (newest_is w (lit_given l) w.standing (given_small l))
        ∙ three_case w [] (taken_back w w.standing) 11 (not (state_room ws ends words log c)) (not (knows d (lit_given l))) (not_newest (lit_given l) w.standing) refl
        ∙ sym (ap (λ (k : ℕ). refused_or k w [] (taken_back w w.standing)) (undo_is ws ends p words log c w s l))
