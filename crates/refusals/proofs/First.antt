-- The number that a test answers is the first of the table of refusals that applies to the abstract call.
use mathlib.Core.Path.{◌≡◌, refl, sym, ap, ◌∙◌}
use mathlib.Core.Bool.{Bool, true, false, not, ◌||◌, true≢false, false≢true}
use mathlib.Core.List.{List, [], ◌∷◌}
use Prim.Native.Nat.{ℕ, zero, suc, ◌≤◌, ◌<◌}
use native.Mathlib.Omega.{arith}
use lib.Dec.{ltb}
use lib.IntN.{ℤ}
use lib.ListN.{length, get_or}
use borrow.Author.Tests.{ne_eqb, eq-eqb, ltb-false}
use Rattle.base.specs.Iter.{pick}
use Rattle.base.proofs.Loop.{pick_yes, pick_no}
use Rattle.base.proofs.Tests.{or_none, and_left, and_right, not_false}
use Rattle.undo_log.specs.declared.Cursor.{Cursor}
use Rattle.plan.specs.Plan.{plan_of}
use Rattle.plan.specs.Proper.{ProperWords}
use Rattle.division.specs.Plan.{Plan, Proper}
use Rattle.noting.specs.Note.{noting}
use Rattle.noting.specs.Standing.{standing_of}
use Rattle.calls.specs.Table.{knows, variables, too_high, bad_table}
use Rattle.calls.specs.Calls.{World, Query, reason_for, last_left, page, Call, initialize, propagate, undo, ask, accepted, Outcome, refuse, answer_to, tell, call}
use Rattle.calls.specs.Refusals.{room_of, BadTable, Stops, at13, at14, AppliesTo, Applies, First}
use Rattle.calls.proofs.Known.{known}
use Rattle.calls.proofs.Queries.{of_graph, query_late}
use Rattle.calls.proofs.Refusals.{asks_graph, refusals, acceptances}
use Rattle.refusals.specs.Refusals.{state_bad, literal_refusal, initialize_refusal, propagate_refusal, undo_refusal, fetch_refusal}
use Rattle.refusals.specs.Calls.{lit_given, table_room, state_room, fetch_room, refused_or, taken_back}
use Rattle.refusals.proofs.Numbers.{literal_is, initialize_is, fetch_is}
use Rattle.refusals.proofs.Accepted.{pick_zero}
use Rattle.refusals.proofs.Calls.{initialize_call, propagate_call, undo_call, ask_call, reason_call}

module _ (d : Plan) (w : World) (c : Call) (pr : asks_graph c ≡ true → Proper d) where
  numbered : (n : ℕ) (t : List ℕ) (o : Outcome) → call d c w ≡ refused_or n w t o → 0 < n → First d w c n
  unfolding refused_or refuse
  numbered n t o e h = (refusals d w c pr n).0 (ap (λ (x : Outcome). x.answer) (e ∙ pick_no _ _ (ne_eqb n 0 (λ (z : n ≡ 0). omega arith))))

  -- 0 where what is then done is accepted: none applies
  cleared : (n : ℕ) (t : List ℕ) (o : Outcome) → call d c w ≡ refused_or n w t o → n ≡ 0 → accepted o.answer ≡ true → (m : ℕ) → Applies d w c m → ⊥
  unfolding refused_or
  cleared n t o e z a = (acceptances d w c pr).0 (ap (λ (x : Outcome). accepted x.answer) (e ∙ pick_yes _ _ (eq-eqb n 0 z)) ∙ a)

-- 7 to 11 do not depend on the pending number
stops_late : {d : Plan} {ls t : List ℕ} {n : ℕ} → Stops d ls t n → 11 < n
stops_late (at13 x) = omega arith
stops_late (at14 x) = omega arith

pended : {d : Plan} {w : World} {room : Bool} {t : List ℕ} {l : ℕ} {pending : Bool} {m : ℕ} → m ≤ 11 → Applies d w (propagate room t l pending) m → Applies d w (propagate room t l true) m
unfolding room_of
pended h (Applies.no_room c e) = Applies.no_room _ e
pended h (Applies.bad_propagate room t l pending b) = Applies.bad_propagate room t l true b
pended h (Applies.unknown_propagate room t l pending k) = Applies.unknown_propagate room t l true k
pended h (Applies.stands room t l pending s) = Applies.stands room t l true s
pended h (Applies.stops room t l n s) = absurd (let z = stops_late s in omega arith)

not_high : (t : List ℕ) → too_high t ≡ false → (i : ℕ) → i < length t → 4 < get_or t i 0 → ⊥
unfolding too_high
not_high [] e i h l = absurd (omega arith)
not_high (x ∷ t) e zero h l = let z = ltb-false 4 x (or_none (ltb 4 x) _ e).0 in omega arith
not_high (x ∷ t) e (suc i) h l = not_high t (or_none (ltb 4 x) _ e).1 i (omega arith) l

table_good : (d : Plan) (t : List ℕ) → bad_table d t ≡ false → BadTable d t → ⊥
unfolding bad_table
table_good d t e (BadTable.short l) = let z = ltb-false (length t) (variables d) (or_none (ltb (length t) (variables d)) _ e).0 in omega arith
table_good d t e (BadTable.high i h l) = not_high t (or_none (ltb (length t) (variables d)) _ e).1 i h l

initialize_clear : {d : Plan} {w : World} {room : Bool} {t : List ℕ} {m : ℕ} → room ≡ true → bad_table d t ≡ false → w.done ≡ false → m ≤ 8 → Applies d w (initialize room t) m → ⊥
unfolding room_of
initialize_clear r b n h (Applies.no_room c e) = true≢false (sym r ∙ e)
initialize_clear {d = d} r b n h (Applies.bad_initialize room t x) = table_good d t b x
initialize_clear r b n h (Applies.again room t e) = true≢false (sym e ∙ n)
initialize_clear r b n h (Applies.stands_later room t a l ls g x) = absurd (omega arith)
initialize_clear r b n h (Applies.stops_later room t a l ls k g x y) = absurd (let z = stops_late y in omega arith)
initialize_clear r b n h (Applies.zero_last room t a g x) = absurd (omega arith)

reason_clear : {d : Plan} {w : World} {room : Bool} {l : ℕ} {m : ℕ} → room ≡ true → knows d l ≡ true → m ≤ 9 → Applies d w (ask room (reason_for l)) m → ⊥
unfolding room_of
reason_clear r k h (Applies.no_room c e) = true≢false (sym r ∙ e)
reason_clear {d = d} r k h (Applies.of_query room q n (AppliesTo.unknown_reason l x)) = x (known d l k)
reason_clear r k h (Applies.of_query room q n (AppliesTo.no_reason l x)) = absurd (omega arith)
reason_clear r k h (Applies.of_query room q n (AppliesTo.path_gone l x y z)) = absurd (omega arith)

page_late : {d : Plan} {w : World} {room : Bool} {n m : ℕ} → m < 7 → Applies d w (ask room (page n)) m → ⊥
page_late h (Applies.no_room c e) = omega arith
page_late {d = d} {w = w} h (Applies.of_query room q m x) = omega (arith, query_late d w x)

module _ (ws : List ℕ) (ends : List (List ℕ)) (p : ProperWords ws ends) (words log : List ℕ) (c : Cursor) (w : World) where
  abbrev d : Plan
  d = plan_of ws ends

  pub initialize_first : (t : List ℕ) (n : ℕ) → 0 < initialize_refusal ws ends words t n log c w.done →
      First d w (initialize (table_room ws ends words n log c) t) (initialize_refusal ws ends words t n log c w.done)
  unfolding call asks_graph
  initialize_first t n h = numbered d w (initialize (table_room ws ends words n log c) t) (λ e. absurd (false≢true e)) _ t _ (initialize_call ws ends p words log c w t n) h

  -- where it is 0, neither 7 nor 8 applies; 10 and on are left to the work
  pub initialize_none : (t : List ℕ) (n : ℕ) → initialize_refusal ws ends words t n log c w.done ≡ 0 → (m : ℕ) → m ≤ 8 → Applies d w (initialize (table_room ws ends words n log c) t) m → ⊥
  initialize_none t n z m h a =
      let (x, y) = pick_zero (not (table_room ws ends words n log c) || bad_table d t) 7 (pick w.done 8 0) (omega arith) (sym (initialize_is ws ends p words log c w t n) ∙ z) in
      let (r, b) = or_none (not (table_room ws ends words n log c)) (bad_table d t) x in
      initialize_clear (not_false _ r) b (pick_zero w.done 8 0 (omega arith) y).0 h a

  -- a query that is lent a reason buffer
  pub ask_first : (n : ℕ) (q : Query) → 0 < fetch_refusal ws ends words n log c → First d w (ask (fetch_room ws ends words n log c) q) (fetch_refusal ws ends words n log c)
  unfolding call asks_graph
  ask_first n q h =
      numbered d w (ask (fetch_room ws ends words n log c) q)
      (λ e. let z = fetch_is ws ends p words log c w n ∙ pick_no 7 0 (ap not (and_left (fetch_room ws ends words n log c) (of_graph q) e)) in absurd (omega arith)) _ [] _ (ask_call ws ends p words log c w n q) h

  pub last_none : (n : ℕ) → fetch_refusal ws ends words n log c ≡ 0 → (m : ℕ) → Applies d w (ask (fetch_room ws ends words n log c) last_left) m → ⊥
  unfolding call answer_to tell accepted asks_graph of_graph
  last_none n z = cleared d w (ask (fetch_room ws ends words n log c) last_left) (λ e. absurd (false≢true (and_right (fetch_room ws ends words n log c) false e))) _ [] _ (ask_call ws ends p words log c w n last_left) z refl

  -- the page, whose buffer 7 asks nothing of; where 7 does not apply, 19 is left to the work
  pub page_first : (n : ℕ) → state_bad ws ends words log c ≡ true →
      First d w (ask (state_room ws ends words log c) (page n)) 7
  unfolding state_room room_of
  page_first n e = record {
    applies = Applies.no_room _ (ap not e);
    least = λ m h x. page_late (omega arith) x;
  }

  -- a fetch by literal whose buffers pass
  pub reason_unknown : (n : ℕ) (l : ℤ) → fetch_refusal ws ends words n log c ≡ 0 → 0 < literal_refusal ws l → First d w (ask (fetch_room ws ends words n log c) (reason_for (lit_given l))) (literal_refusal ws l)
  unfolding call refused_or asks_graph of_graph
  reason_unknown n l z h =
      numbered d w (ask (fetch_room ws ends words n log c) (reason_for (lit_given l))) (λ e. absurd (false≢true (and_right (fetch_room ws ends words n log c) false e))) _ [] _ (reason_call ws ends p words log c w n l ∙ pick_yes _ _ (eq-eqb (fetch_refusal ws ends words n log c) 0 z)) h

  -- where both are 0, none up to 9 applies; 15 and 16 are left to the work
  pub reason_none : (n : ℕ) (l : ℤ) → fetch_refusal ws ends words n log c ≡ 0 → literal_refusal ws l ≡ 0 →
      (m : ℕ) → m ≤ 9 → Applies d w (ask (fetch_room ws ends words n log c) (reason_for (lit_given l))) m → ⊥
  reason_none n l z y m h a =
      let r = (pick_zero (not (fetch_room ws ends words n log c)) 7 0 (omega arith) (sym (fetch_is ws ends p words log c w n) ∙ z)).0 in
      let k = (pick_zero (not (knows d (lit_given l))) 9 0 (omega arith) (sym (literal_is ws ends p l) ∙ y)).0 in
      reason_clear (not_false _ r) (not_false _ k) h a

  module _ (s : w.standing ≡ standing_of (noting words log c)) (l : ℤ) where
    pub propagate_first : (t : List ℕ) (n : ℕ) (pending : Bool) → 0 < propagate_refusal ws ends words t n log c l →
        First d w (propagate (table_room ws ends words n log c) t (lit_given l) pending) (propagate_refusal ws ends words t n log c l)
    unfolding call asks_graph
    propagate_first t n pending h = numbered d w (propagate (table_room ws ends words n log c) t (lit_given l) pending) (λ e. absurd (false≢true e)) _ t _ (propagate_call ws ends p words log c w s l t n pending) h

    -- where it is 0, none up to 11 applies
    pub propagate_none : (t : List ℕ) (n : ℕ) (pending : Bool) → propagate_refusal ws ends words t n log c l ≡ 0 →
        (m : ℕ) → m ≤ 11 → Applies d w (propagate (table_room ws ends words n log c) t (lit_given l) pending) m → ⊥
    unfolding call accepted asks_graph
    propagate_none t n pending z m h a =
        cleared d w (propagate (table_room ws ends words n log c) t (lit_given l) true) (λ e. absurd (false≢true e)) _ t _ (propagate_call ws ends p words log c w s l t n true ∙ ap (refused_or (propagate_refusal ws ends words t n log c l) w t) (pick_yes _ _ refl)) z refl m
        (pended h a)

    pub undo_first : 0 < undo_refusal ws ends words log c l → First d w (undo (state_room ws ends words log c) (lit_given l)) (undo_refusal ws ends words log c l)
    unfolding call asks_graph
    undo_first h = numbered d w (undo (state_room ws ends words log c) (lit_given l)) (λ e. absurd (false≢true e)) _ [] _ (undo_call ws ends p words log c w s l) h

    pub undo_none : undo_refusal ws ends words log c l ≡ 0 → (m : ℕ) → Applies d w (undo (state_room ws ends words log c) (lit_given l)) m → ⊥
    unfolding call taken_back accepted asks_graph
    undo_none z = cleared d w (undo (state_room ws ends words log c) (lit_given l)) (λ e. absurd (false≢true e)) _ [] _ (undo_call ws ends p words log c w s l) z refl
