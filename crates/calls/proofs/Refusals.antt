-- A call is refused with the first number of document 01's table that applies, and accepted where none does.
use native.Mathlib.Nat.{le_antisymm}
use Prim.Native.Nat.{ℕ, zero, suc, ◌<◌, ◌≤◌}
use native.Mathlib.Omega.{arith}
use mathlib.Core.Path.{◌≡◌, refl, sym, ◌∙◌, ap, subst}
use mathlib.Core.Logic.{◌⊎◌, inl, inr, ⊎_elim, ◌↔◌}
use mathlib.Core.Bool.{Bool, true, false, ◌&&◌, ◌||◌, true≢false, false≢true, not}
use mathlib.Core.List.{List, [], ◌∷◌}
use lib.Dec.{eqb, ltb}
use lib.ListN.{length, get_or}
use borrow.Author.Tests.{eqb-true, eqb-false, ltb-true, ltb-false, ne_eqb}
use Rattle.base.specs.Lists.{Every, none, more}
use Rattle.base.proofs.Loop.{pick_ind, pick_no, tested, pick_yes}
use Rattle.base.proofs.Tests.{or_cases, le_or_lt}
use Rattle.division.specs.Plan.{Plan, Proper}
use Rattle.division.specs.Runs.{analysis}
use Rattle.division.specs.Analysis.{Verdict, going, conflict, zero_size}
use Rattle.division.proofs.Verdicts.{verdict_zero, zero_verdict}
use Rattle.calls.specs.Table.{code_of, coded, current_in, some_current, too_high, bad_table, has, variables, false_in, entered}
use Rattle.calls.specs.Look.{fine, clash, stopped, Looked, looked, looked_by, offered, offers, first_false, stop, clashes, Judgement}
use Rattle.calls.specs.Calls.{World, taken, Call, initialize, propagate, undo, ask, Query, Answer, consistent}
use Rattle.calls.specs.Calls.{conflicting, noted, undone, refused, reason, found_run, printed_page, accepted}
use Rattle.calls.specs.Calls.{Outcome, on_propagate, settled, settled_by, on_undo, take_back, on_ask, tell, refuse}
use Rattle.calls.specs.Calls.{Going, propagate_all, one_by, entry, join_by, finish_by, last_by, on_initialize, call}
use Rattle.calls.specs.Refusals.{BadTable, short, high, Known, Stands, ZeroAt, Stops, at13, at14, Stage, room_of}
use Rattle.calls.specs.Refusals.{AppliesTo, Applies, Works, First}
use Rattle.calls.proofs.Looks.{stop_not_fine, stop_not_clash}
use Rattle.calls.proofs.Known.{known, unknown}
use Rattle.calls.proofs.Stands.{or_left}
use Rattle.calls.proofs.View.{not_not, or_right, stop_stays, clash_stays}
use Rattle.calls.proofs.Claim.{has_in, in_has}
use Rattle.calls.proofs.Queries.{not_false, of_graph, query_late, answer_judged}
use Rattle.calls.proofs.Queries.{Answered, denied, given, found, printed}

-- 7
high_at : (t : List ℕ) → too_high t ≡ true → (i : ℕ) × (i < length t) × (4 < get_or t i 0)
unfolding too_high
high_at [] e = absurd (false≢true e)
high_at (c ∷ t) e = ⊎_elim (λ x. (0, omega arith, ltb-true _ _ x)) (λ x. let (i, h, y) = high_at t x in (suc i, omega arith, y)) (or_cases (ltb 4 c) _ e)

not_high : (t : List ℕ) → too_high t ≡ false → (i : ℕ) → i < length t → 4 < get_or t i 0 → ⊥
unfolding too_high
not_high [] e i h l = omega arith
not_high (c ∷ t) e zero h l = omega (arith, ltb-false 4 c (or_left _ _ e))
not_high (c ∷ t) e (suc i) h l = not_high t (or_right (ltb 4 c) _ e) i (omega arith) l

bad_table_lem : (d : Plan) (t : List ℕ) → bad_table d t ≡ true → BadTable d t
unfolding bad_table
bad_table_lem d t e = ⊎_elim (λ x. short (ltb-true _ _ x)) (λ x. let (i, h, y) = high_at t x in high i h y) (or_cases (ltb (length t) (variables d)) _ e)

good_table : (d : Plan) (t : List ℕ) → bad_table d t ≡ false → BadTable d t → ⊥
unfolding bad_table
good_table d t e (short l) = omega (arith, ltb-false (length t) (variables d) (or_left _ _ e))
good_table d t e (high i h l) = not_high t (or_right (ltb (length t) (variables d)) _ e) i h l

-- 10
pub stands : (w : World) (l : ℕ) → taken w l ≡ true → Stands w l
unfolding taken
stands w l e = ⊎_elim (λ x. inl (has_in _ _ x)) (λ x. inr (has_in _ _ x)) (or_cases (has w.standing l) _ e)

pub not_stands : (w : World) (l : ℕ) → taken w l ≡ false → Stands w l → ⊥
unfolding taken
not_stands w l e (inl m) = true≢false (sym (in_has _ _ m) ∙ or_left _ _ e)
not_stands w l e (inr m) = true≢false (sym (in_has _ _ m) ∙ or_right (has w.standing l) _ e)

-- 14
not_current : (t ls : List ℕ) → some_current t ls ≡ false → Every (λ l. (code_of t l ≡ 3 → ⊥) × (code_of t l ≡ 4 → ⊥)) ls
unfolding some_current current_in coded
not_current t [] e = none
not_current t (l ∷ ls) e =
    let x = or_left (eqb (code_of t l) 3 || eqb (code_of t l) 4) _ e in
    more (eqb-false _ _ (or_left _ _ x), eqb-false _ _ (or_right (eqb (code_of t l) 3) _ x)) (not_current t ls (or_right (eqb (code_of t l) 3 || eqb (code_of t l) 4) _ e))

current_none : (t ls : List ℕ) → Every (λ l. (code_of t l ≡ 3 → ⊥) × (code_of t l ≡ 4 → ⊥)) ls → some_current t ls ≡ false
unfolding some_current current_in coded
current_none t [] none = refl
current_none t (l ∷ ls) (more x e) = rw (ne_eqb (code_of t l) 3 x.0, ne_eqb (code_of t l) 4 x.1) (current_none t ls e)

first_only : (t ps : List ℕ) (p : ℕ) (qs : List ℕ) → first_false t ps ≡ p ∷ qs → qs ≡ []
unfolding first_false
first_only t [] p qs e = absurd (nil_cons e)
  where
    nil_cons : {x : ℕ} {l : List ℕ} → [] ≡ x ∷ l → ⊥
    nil_cons q = let z : ◌≡◌ {A = ℕ} 0 _ = ap length q in omega arith
first_only t (x ∷ xs) p qs e = pick_ind (λ (z : List ℕ). z ≡ p ∷ qs → qs ≡ []) (false_in t x) (x ∷ []) (first_false t xs) (λ _ q. tails q) (λ _ q. first_only t xs p qs q) e
  where
    tails : {a b : ℕ} {k l : List ℕ} → a ∷ k ≡ b ∷ l → l ≡ k
    tails q = cc

number : {m n : ℕ} → stopped m ≡ stopped n → m ≡ n
number q = cc

module _ (d : Plan) (ls t : List ℕ) where
  -- what is refused of a notification's work
  look_stops : (n : ℕ) → (looked d ls t).judgement ≡ stopped n → Stops d ls t n
  unfolding looked looked_by offered stop clashes
  look_stops n = by (analysis d ls).verdict refl
    where
      offers_by : (ps : List ℕ) → (analysis d ls).verdict ≡ going → first_false t (offers (analysis d ls)) ≡ ps → (offered d ls t (analysis d ls) ps).judgement ≡ stopped n → Stops d ls t n
      offers_by [] v e q = absurd (stop_not_fine n (sym q))
      offers_by (p ∷ ps) v e q =
          pick_ind (λ (z : Looked). z.judgement ≡ stopped n → Stops d ls t n) _ _ _ (λ _ y. absurd (stop_not_clash n (sym y)))
          (λ f y. subst (Stops d ls t) (number y) (at14 (record { clear = v; p = p; first = e ∙ ap (λ z. p ∷ z) (first_only t _ p ps e); none = not_current t _ f }))) q

      by : (v : Verdict) → (analysis d ls).verdict ≡ v → (looked_by d ls t (analysis d ls) v).judgement ≡ stopped n → Stops d ls t n
      by going e q = offers_by _ e refl q
      by (conflict c) e q = absurd (stop_not_clash n (sym q))
      by zero_size e q = subst (Stops d ls t) (number q) (at13 (verdict_zero d _ _ e))

  stops_look : (n : ℕ) → Stops d ls t n → (looked d ls t).judgement ≡ stopped n
  unfolding looked looked_by offered stop
  stops_look n (at13 c) = ap (λ (v : Verdict). (looked_by d ls t (analysis d ls) v).judgement) (zero_verdict d _ _ c)
  stops_look n (at14 c) =
      ap (λ (v : Verdict). (looked_by d ls t (analysis d ls) v).judgement) c.clear ∙ ap (λ (z : List ℕ). (offered d ls t (analysis d ls) z).judgement) c.first ∙
      ap (λ (z : Looked). z.judgement) (pick_no _ _ (current_none t _ c.none))

  stops_number : (n : ℕ) → Stops d ls t n → 12 ≤ n
  stops_number n (at13 c) = omega arith
  stops_number n (at14 c) = omega arith

pub not_taken : (w : World) (l : ℕ) → (Stands w l → ⊥) → taken w l ≡ false
not_taken w l n = tested (taken w l) (λ e. absurd (n (stands w l e))) (λ e. e)

is_taken : (w : World) (l : ℕ) → Stands w l → taken w l ≡ true
is_taken w l x = tested (taken w l) (λ e. e) (λ e. absurd (not_stands w l e x))

same_number : {m n : ℕ} → refused m ≡ refused n → m ≡ n
same_number q = cc

refused_or : (a : Answer) → ((n : ℕ) × (a ≡ refused n)) ⊎ (accepted a ≡ true)
unfolding accepted
refused_or consistent = inr refl
refused_or conflicting = inr refl
refused_or noted = inr refl
refused_or undone = inr refl
refused_or (refused n) = inl (n, refl)
refused_or (reason ls) = inr refl
refused_or (found_run gs) = inr refl
refused_or (printed_page bytes) = inr refl

-- a run or a page is asked for, with room
unfoldable pub asks_graph : Call → Bool
asks_graph (initialize room t) = false
asks_graph (propagate room t l pending) = false
asks_graph (undo room l) = false
asks_graph (ask room q) = room && of_graph q

-- how a call is judged
data Judged (d : Plan) (w : World) (c : Call) (a : Answer) : Type 0 where
  turned : (n : ℕ) → a ≡ refused n → First d w c n → Judged d w c a
  passed : accepted a ≡ true → ((n : ℕ) → Applies d w c n → ⊥) → Judged d w c a

abbrev Lacks : Plan → Bool → List ℕ → Type 0
Lacks d room t = (room ≡ false) ⊎ BadTable d t

lacks : (d : Plan) (room : Bool) (t : List ℕ) → (not room || bad_table d t) ≡ true → Lacks d room t
lacks d room t e = ⊎_elim (λ x. inl (not_false room x)) (λ x. inr (bad_table_lem d t x)) (or_cases (not room) _ e)

not_lacks : (d : Plan) (room : Bool) (t : List ℕ) → (not room || bad_table d t) ≡ false → Lacks d room t → ⊥
not_lacks d room t e (inl r) = true≢false (sym (not_not room (or_left _ _ e)) ∙ r)
not_lacks d room t e (inr b) = good_table d t (or_right (not room) _ e) b

module _ (d : Plan) (w : World) where
  -- what applies to a notification
  data ToPropagate (room : Bool) (t : List ℕ) (l : ℕ) (pending : Bool) (n : ℕ) : Type 0 where
    is7 : n ≡ 7 → Lacks d room t → ToPropagate room t l pending n
    is9 : n ≡ 9 → (Known d l → ⊥) → ToPropagate room t l pending n
    is10 : n ≡ 10 → Stands w l → ToPropagate room t l pending n
    is_work : pending ≡ false → Stops d (l ∷ w.standing) t n → ToPropagate room t l pending n

  to_propagate : {room : Bool} {t : List ℕ} {l : ℕ} {pending : Bool} {n : ℕ} → Applies d w (propagate room t l pending) n → ToPropagate room t l pending n
  unfolding room_of
  to_propagate (Applies.no_room c e) = is7 refl (inl e)
  to_propagate (Applies.bad_propagate room t l pending b) = is7 refl (inr b)
  to_propagate (Applies.unknown_propagate room t l pending k) = is9 refl k
  to_propagate (Applies.stands room t l pending s) = is10 refl s
  to_propagate (Applies.stops room t l n s) = is_work refl s

  lacks_propagate : (room : Bool) (t : List ℕ) (l : ℕ) (pending : Bool) → Lacks d room t → Applies d w (propagate room t l pending) 7
  unfolding room_of
  lacks_propagate room t l pending (inl e) = Applies.no_room _ e
  lacks_propagate room t l pending (inr b) = Applies.bad_propagate room t l pending b

  -- where none of 7 to 11 applies, a notification with nothing pending is worked on
  pub propagate_works : (room : Bool) (t : List ℕ) (l : ℕ) (pending : Bool) → pending ≡ false →
      Works d w (propagate room t l pending) → call d (propagate room t l pending) w ≡ settled d w t l
  unfolding call on_propagate
  propagate_works room t l pending p k =
      pick_ind W _ _ _ (λ e. absurd (k 7 (omega arith) (lacks_propagate room t l pending (lacks d room t e))))
      (λ _. pick_ind W _ _ _
      (λ e. absurd (k 9 (omega arith) (Applies.unknown_propagate room t l pending (unknown d l (not_false _ e)))))
      (λ _. pick_ind W _ _ _ (λ e. absurd (k 10 (omega arith) (Applies.stands room t l pending (stands w l e))))
      (λ _. pick_ind W _ _ _ (λ e. absurd (true≢false (sym e ∙ p))) (λ _. refl))))
    where
      W : Outcome → Type 0
      W o = o ≡ settled d w t l

  judge_propagate : (room : Bool) (t : List ℕ) (l : ℕ) (pending : Bool) → Judged d w (propagate room t l pending) (on_propagate d w room t l pending).answer
  unfolding on_propagate settled settled_by refuse accepted
  judge_propagate room t l pending =
      pick_ind J _ _ _ (λ e. turned 7 refl (record { applies = lacks_propagate room t l pending (lacks d room t e); least = λ m h x. below7 m h (to_propagate x) }))
      (λ e. let no7 = not_lacks d room t e in
      pick_ind J _ _ _ (λ k. turned 9 refl (record { applies = Applies.unknown_propagate room t l pending (unknown d l (not_false _ k)); least = λ m h x. below9 no7 m h (to_propagate x) }))
      (λ k. let no9 : (Known d l → ⊥) → ⊥ = λ u. u (known d l (not_not _ k)) in
      pick_ind J _ _ _ (λ s. turned 10 refl (record { applies = Applies.stands room t l pending (stands w l s); least = λ m h x. below10 no7 no9 m h (to_propagate x) }))
      (λ s. let no10 = not_stands w l s in
      pick_ind J _ _ _ (λ p. passed refl (λ n x. quiet no7 no9 no10 p n (to_propagate x)))
      (λ p. by no7 no9 no10 p (looked d (l ∷ w.standing) t).judgement refl))))
    where
      J : Outcome → Type 0
      J o = Judged d w (propagate room t l pending) o.answer

      P : ℕ → Type 0
      P n = ToPropagate room t l pending n

      below7 : (m : ℕ) → m < 7 → P m → ⊥
      below7 m h (is7 e x) = omega arith
      below7 m h (is9 e x) = omega arith
      below7 m h (is10 e x) = omega arith
      below7 m h (is_work e x) = omega (arith, stops_number d _ t m x)

      below9 : (Lacks d room t → ⊥) → (m : ℕ) → m < 9 → P m → ⊥
      below9 a m h (is7 e x) = a x
      below9 a m h (is9 e x) = omega arith
      below9 a m h (is10 e x) = omega arith
      below9 a m h (is_work e x) = omega (arith, stops_number d _ t m x)

      below10 : (Lacks d room t → ⊥) → ((Known d l → ⊥) → ⊥) → (m : ℕ) → m < 10 → P m → ⊥
      below10 a b m h (is7 e x) = a x
      below10 a b m h (is9 e x) = b x
      below10 a b m h (is10 e x) = omega arith
      below10 a b m h (is_work e x) = omega (arith, stops_number d _ t m x)

      only_work : (Lacks d room t → ⊥) → ((Known d l → ⊥) → ⊥) → (Stands w l → ⊥) → (m : ℕ) → P m → Stops d (l ∷ w.standing) t m
      only_work a b c m (is7 e x) = absurd (a x)
      only_work a b c m (is9 e x) = absurd (b x)
      only_work a b c m (is10 e x) = absurd (c x)
      only_work a b c m (is_work e x) = x

      quiet : (Lacks d room t → ⊥) → ((Known d l → ⊥) → ⊥) → (Stands w l → ⊥) → pending ≡ true → (m : ℕ) → P m → ⊥
      quiet a b c p m (is7 e x) = a x
      quiet a b c p m (is9 e x) = b x
      quiet a b c p m (is10 e x) = c x
      quiet a b c p m (is_work e x) = true≢false (sym p ∙ e)

      by : (Lacks d room t → ⊥) → ((Known d l → ⊥) → ⊥) → (Stands w l → ⊥) → pending ≡ false → (j : Judgement) → (looked d (l ∷ w.standing) t).judgement ≡ j →
          J (settled_by w t l (looked d (l ∷ w.standing) t) j)
      by a b c p fine e = passed refl (λ n x. stop_not_fine n (sym (stops_look d _ t n (only_work a b c n (to_propagate x))) ∙ e))
      by a b c p clash e = passed refl (λ n x. stop_not_clash n (sym (stops_look d _ t n (only_work a b c n (to_propagate x))) ∙ e))
      by a b c p (stopped n) e = turned n refl (record {
        applies = subst (λ (z : Bool). Applies d w (propagate room t l z) n) (sym p) (Applies.stops room t l n (look_stops d _ t n e));
        least = λ m h x. let z : m ≡ n = number (sym (stops_look d _ t m (only_work a b c m (to_propagate x))) ∙ e) in omega arith;
      })

  -- to an undo
  data ToUndo (room : Bool) (l n : ℕ) : Type 0 where
    is7 : n ≡ 7 → room ≡ false → ToUndo room l n
    is9 : n ≡ 9 → (Known d l → ⊥) → ToUndo room l n
    is11 : n ≡ 11 → ((ls : List ℕ) → w.standing ≡ l ∷ ls → ⊥) → ToUndo room l n

  to_undo : {room : Bool} {l n : ℕ} → Applies d w (undo room l) n → ToUndo room l n
  unfolding room_of
  to_undo (Applies.no_room c e) = is7 refl e
  to_undo (Applies.unknown_undo room l k) = is9 refl k
  to_undo (Applies.not_newest room l k) = is11 refl k

  judge_undo : (room : Bool) (l : ℕ) → Judged d w (undo room l) (on_undo d w room l).answer
  unfolding on_undo take_back refuse accepted room_of
  judge_undo room l =
      pick_ind J _ _ _ (λ e. turned 7 refl (record { applies = Applies.no_room _ (not_false _ e); least = λ m h x. below7 m h (to_undo x) }))
      (λ e. let no7 : room ≡ false → ⊥ = λ r. true≢false (sym (not_not _ e) ∙ r) in
      pick_ind J _ _ _ (λ k. turned 9 refl (record { applies = Applies.unknown_undo room l (unknown d l (not_false _ k)); least = λ m h x. below9 no7 m h (to_undo x) }))
      (λ k. by no7 (λ u. u (known d l (not_not _ k))) w.standing refl))
    where
      J : Outcome → Type 0
      J o = Judged d w (undo room l) o.answer

      below7 : (m : ℕ) → m < 7 → ToUndo room l m → ⊥
      below7 m h (is7 e x) = omega arith
      below7 m h (is9 e x) = omega arith
      below7 m h (is11 e x) = omega arith

      below9 : (room ≡ false → ⊥) → (m : ℕ) → m < 9 → ToUndo room l m → ⊥
      below9 a m h (is7 e x) = a x
      below9 a m h (is9 e x) = omega arith
      below9 a m h (is11 e x) = omega arith

      below11 : (room ≡ false → ⊥) → ((Known d l → ⊥) → ⊥) → (m : ℕ) → m < 11 → ToUndo room l m → ⊥
      below11 a b m h (is7 e x) = a x
      below11 a b m h (is9 e x) = b x
      below11 a b m h (is11 e x) = omega arith

      none_of : (room ≡ false → ⊥) → ((Known d l → ⊥) → ⊥) → (ls : List ℕ) → w.standing ≡ l ∷ ls → (m : ℕ) → ToUndo room l m → ⊥
      none_of a b ls q m (is7 e x) = a x
      none_of a b ls q m (is9 e x) = b x
      none_of a b ls q m (is11 e x) = x ls q

      heads : {a b : ℕ} {k r : List ℕ} → a ∷ k ≡ b ∷ r → a ≡ b
      heads q = cc

      nil_cons : {x : ℕ} {k : List ℕ} → [] ≡ x ∷ k → ⊥
      nil_cons q = let z : ◌≡◌ {A = ℕ} 0 _ = ap length q in omega arith

      by : (room ≡ false → ⊥) → ((Known d l → ⊥) → ⊥) → (xs : List ℕ) → w.standing ≡ xs → J (take_back w l xs)
      by a b [] q = turned 11 refl (record { applies = Applies.not_newest room l (λ ls e. nil_cons (sym q ∙ e)); least = λ m h x. below11 a b m h (to_undo x) })
      by a b (x ∷ xs) q =
          pick_ind J _ _ _ (λ e. passed refl (λ n y. none_of a b xs (q ∙ ap (λ z. z ∷ xs) (eqb-true _ _ e)) n (to_undo y)))
          (λ e. turned 11 refl (record { applies = Applies.not_newest room l (λ ls f. eqb-false _ _ e (heads (sym q ∙ f))); least = λ m h y. below11 a b m h (to_undo y) }))

  -- to a query
  to_ask : {room : Bool} {q : Query} {n : ℕ} → Applies d w (ask room q) n → ((n ≡ 7) × (room ≡ false)) ⊎ AppliesTo d w q n
  unfolding room_of
  to_ask (Applies.no_room c e) = inl (refl, e)
  to_ask (Applies.of_query room q n x) = inr x

  judge_ask : (room : Bool) (q : Query) → (asks_graph (ask room q) ≡ true → Proper d) →
      Judged d w (ask room q) (on_ask d w room q).answer
  unfolding on_ask tell accepted room_of asks_graph
  judge_ask room q pr =
      pick_ind (Judged d w (ask room q)) _ _ _
      (λ e. turned 7 refl (record { applies = Applies.no_room _ (not_false _ e); least = λ m h x. ⊎_elim (λ z. let y = z.0 in omega arith) (λ z. let y = query_late d w z in omega arith) (to_ask x) }))
      (λ e. by (λ r. true≢false (sym (not_not _ e) ∙ r))
      (answer_judged d w q (λ r. pr (ap (λ (x : Bool). x && of_graph q) (not_not room e) ∙ r))))
    where
      by : {a : Answer} → (room ≡ false → ⊥) → Answered d w q a → Judged d w (ask room q) a
      by no7 (denied n e x f) = turned n e (record { applies = Applies.of_query room q n x; least = λ m h y. ⊎_elim (λ z. no7 z.1) (λ z. f m h z) (to_ask y) })
      by no7 (given list e f) = passed (ap accepted e) (λ n y. ⊎_elim (λ z. no7 z.1) (λ z. f n z) (to_ask y))
      by no7 (found gs r e f) = passed (ap accepted e) (λ n y. ⊎_elim (λ z. no7 z.1) (λ z. f n z) (to_ask y))
      by no7 (printed bytes r e f) = passed (ap accepted e) (λ n y. ⊎_elim (λ z. no7 z.1) (λ z. f n z) (to_ask y))

module _ (d : Plan) (w : World) (t : List ℕ) where
  -- what applies to the work of an initialize
  data Work (n : ℕ) : Type 0 where
    at_lit : (a : Going) (l : ℕ) (ls : List ℕ) → n ≡ 10 → Stage d w t a (l ∷ ls) → Stands a.world l → Work n
    at_work : (a : Going) (l : ℕ) (ls : List ℕ) → Stage d w t a (l ∷ ls) → (Stands a.world l → ⊥) → Stops d (l ∷ a.world.standing) a.table n → Work n
    last_zero : (a : Going) → n ≡ 13 → Stage d w t a [] → ZeroAt d a.world.standing → Work n

  work_number : (n : ℕ) → Work n → 10 ≤ n
  work_number n (at_lit a l ls e s x) = omega arith
  work_number n (at_work a l ls s k x) = omega (arith, stops_number d _ _ n x)
  work_number n (last_zero a e s x) = omega arith

  abbrev pub ended : Going
  ended = propagate_all d (entered d t) (entry w t)

  -- the rest of the notifications starts from a stage that is fine
  pub record Runs (a : Going) (ls : List ℕ) : Type 0 where
    pub fine_yet : a.judgement ≡ fine
    pub rest : ended ≡ propagate_all d ls a

  one_fine : (a : Going) (l : ℕ) (ls : List ℕ) → a.judgement ≡ fine → propagate_all d (l ∷ ls) a ≡ propagate_all d ls (one_by d l a fine)
  unfolding propagate_all
  one_fine a l ls e = ap (λ (j : Judgement). propagate_all d ls (one_by d l a j)) e

  joins : (a : Going) (l : ℕ) (ls : List ℕ) (j : Judgement) → a.judgement ≡ fine → (Stands a.world l → ⊥) → (looked d (l ∷ a.world.standing) a.table).judgement ≡ j →
      propagate_all d (l ∷ ls) a ≡ propagate_all d ls (join_by a l (looked d (l ∷ a.world.standing) a.table) j)
  unfolding one_by
  joins a l ls j e n q =
      one_fine a l ls e ∙ ap (propagate_all d ls) (pick_no _ _ (not_taken a.world l n) ∙ ap (join_by a l (looked d (l ∷ a.world.standing) a.table)) q)

  pub stage_runs : {a : Going} {ls : List ℕ} → Stage d w t a ls → Runs a ls
  unfolding entry join_by
  stage_runs Stage.first = record { fine_yet = refl; rest = refl }
  stage_runs (Stage.next {a = a} {l = l} {ls = ls} s n e) = let r = stage_runs s in record { fine_yet = refl; rest = r.rest ∙ joins a l ls fine r.fine_yet n e }

  halted_at : (a : Going) (l : ℕ) (ls : List ℕ) → a.judgement ≡ fine → Stands a.world l → (propagate_all d (l ∷ ls) a).judgement ≡ stopped 10
  unfolding one_by
  halted_at a l ls e x =
      ap (λ (b : Going). b.judgement) (one_fine a l ls e ∙ ap (propagate_all d ls) (pick_yes _ _ (is_taken a.world l x)) ∙ stop_stays d ls _ 10 refl)

  stopped_at : (a : Going) (l : ℕ) (ls : List ℕ) (n : ℕ) → a.judgement ≡ fine → (Stands a.world l → ⊥) → (looked d (l ∷ a.world.standing) a.table).judgement ≡ stopped n →
      (propagate_all d (l ∷ ls) a).judgement ≡ stopped n
  unfolding join_by
  stopped_at a l ls n e k q = ap (λ (b : Going). b.judgement) (joins a l ls (stopped n) e k q ∙ stop_stays d ls _ n refl)

  pub clashed_at : (a : Going) (l : ℕ) (ls : List ℕ) → a.judgement ≡ fine → (Stands a.world l → ⊥) →
      (looked d (l ∷ a.world.standing) a.table).judgement ≡ clash →
      propagate_all d (l ∷ ls) a ≡ join_by a l (looked d (l ∷ a.world.standing) a.table) clash
  unfolding join_by
  clashed_at a l ls e k q = joins a l ls clash e k q ∙ clash_stays d ls _ refl

  abbrev pub finished : Going → Outcome
  finished b = finish_by d w t b b.judgement

  abbrev answer_of : Going → Answer
  answer_of b = (finished b).answer

  stop_answer : (b : Going) (n : ℕ) → b.judgement ≡ stopped n → answer_of b ≡ refused n
  unfolding finish_by refuse
  stop_answer b n e = ap (λ (j : Judgement). (finish_by d w t b j).answer) e

  clash_answer : (b : Going) → b.judgement ≡ clash → answer_of b ≡ conflicting
  unfolding finish_by
  clash_answer b e = ap (λ (j : Judgement). (finish_by d w t b j).answer) e

  pub last_pass : (b : Going) (v : Verdict) → b.judgement ≡ fine → (analysis d b.world.standing).verdict ≡ v →
      finished b ≡ last_by d w t b (analysis d b.world.standing) v
  unfolding finish_by
  last_pass b v e q = ap (finish_by d w t b) e ∙ ap (last_by d w t b (analysis d b.world.standing)) q

  last_answer : (b : Going) (v : Verdict) → b.judgement ≡ fine → (analysis d b.world.standing).verdict ≡ v →
      answer_of b ≡ (last_by d w t b (analysis d b.world.standing) v).answer
  last_answer b v e q = ap (λ (o : Outcome). o.answer) (last_pass b v e q)

  pub none_left : (a : Going) → propagate_all d [] a ≡ a
  unfolding propagate_all
  none_left a = refl

  -- what applies to the work is its answer
  work_answer : (n : ℕ) → Work n → answer_of ended ≡ refused n
  unfolding last_by refuse
  work_answer n (at_lit a l ls e s x) = let r = stage_runs s in ap answer_of r.rest ∙ stop_answer _ 10 (halted_at a l ls r.fine_yet x) ∙ ap refused (sym e)
  work_answer n (at_work a l ls s k x) = let r = stage_runs s in ap answer_of r.rest ∙ stop_answer _ n (stopped_at a l ls n r.fine_yet k (stops_look d _ _ n x))
  work_answer n (last_zero a e s x) = let r = stage_runs s in ap answer_of (r.rest ∙ none_left a) ∙ last_answer a zero_size r.fine_yet (zero_verdict d _ _ x) ∙ ap refused (sym e)

  not_refused : {a : Answer} {n : ℕ} → accepted a ≡ true → a ≡ refused n → ⊥
  unfolding accepted
  not_refused e q = true≢false (sym e ∙ ap accepted q)

  -- and where the work is refused something applies to it
  find : (ls : List ℕ) (a : Going) → Stage d w t a ls → (n : ℕ) → answer_of (propagate_all d ls a) ≡ refused n → Work n
  unfolding last_by accepted refuse join_by
  find [] a s n e = by (analysis d a.world.standing).verdict refl
    where
      here : answer_of a ≡ refused n
      here = ap answer_of (sym (none_left a)) ∙ e

      f : a.judgement ≡ fine
      f = (stage_runs s).fine_yet

      by : (v : Verdict) → (analysis d a.world.standing).verdict ≡ v → Work n
      by going q = absurd (not_refused refl (sym (last_answer a going f q) ∙ here))
      by (conflict c) q = absurd (not_refused refl (sym (last_answer a (conflict c) f q) ∙ here))
      by zero_size q = last_zero a (sym (same_number (sym (last_answer a zero_size f q) ∙ here))) s (verdict_zero d _ _ q)
  find (l ∷ ls) a s n e = tested (taken a.world l)
      (λ k. let x = stands a.world l k in at_lit a l ls (sym (same_number (sym (stop_answer _ 10 (halted_at a l ls f x)) ∙ e))) s x)
      (λ k. by (λ b z. find ls b z n) (not_stands a.world l k) (looked d (l ∷ a.world.standing) a.table).judgement refl)
    where
      f : a.judgement ≡ fine
      f = (stage_runs s).fine_yet

      by : ((b : Going) → Stage d w t b ls → answer_of (propagate_all d ls b) ≡ refused n → Work n) → (Stands a.world l → ⊥) → (j : Judgement) → (looked d (l ∷ a.world.standing) a.table).judgement ≡ j → Work n
      by ih k fine q = ih _ (Stage.next s k q) (ap answer_of (sym (joins a l ls fine f k q)) ∙ e)
      by ih k clash q =
          absurd (not_refused refl (sym (ap answer_of (clashed_at a l ls f k q) ∙ clash_answer _ refl) ∙ e))
      by ih k (stopped m) q =
          let z : m ≡ n = same_number (sym (stop_answer _ m (stopped_at a l ls m f k q)) ∙ e) in
          at_work a l ls s k (look_stops d _ _ n (q ∙ ap stopped z))

  data ToInitialize (room : Bool) (n : ℕ) : Type 0 where
    is7 : n ≡ 7 → Lacks d room t → ToInitialize room n
    is8 : n ≡ 8 → w.done ≡ true → ToInitialize room n
    is_work : Work n → ToInitialize room n

  to_initialize : {room : Bool} {n : ℕ} → Applies d w (initialize room t) n → ToInitialize room n
  unfolding room_of
  to_initialize (Applies.no_room c e) = is7 refl (inl e)
  to_initialize (Applies.bad_initialize room t b) = is7 refl (inr b)
  to_initialize (Applies.again room t e) = is8 refl e
  to_initialize (Applies.stands_later room t a l ls s x) = is_work (at_lit a l ls refl s x)
  to_initialize (Applies.stops_later room t a l ls n s k x) = is_work (at_work a l ls s k x)
  to_initialize (Applies.zero_last room t a s x) = is_work (last_zero a refl s x)

  work_applies : (room : Bool) (n : ℕ) → Work n → Applies d w (initialize room t) n
  work_applies room n (at_lit a l ls e s x) = rw e (Applies.stands_later room t a l ls s x)
  work_applies room n (at_work a l ls s k x) = Applies.stops_later room t a l ls n s k x
  work_applies room n (last_zero a e s x) = rw e (Applies.zero_last room t a s x)

  lacks_initialize : (room : Bool) → Lacks d room t → Applies d w (initialize room t) 7
  unfolding room_of
  lacks_initialize room (inl e) = Applies.no_room _ e
  lacks_initialize room (inr b) = Applies.bad_initialize room t b

  -- where neither 7 nor 8 applies, an initialize is worked on
  pub initialize_works : (room : Bool) → Works d w (initialize room t) → call d (initialize room t) w ≡ finished ended
  unfolding call on_initialize
  initialize_works room k =
      pick_ind W _ _ _ (λ e. absurd (k 7 (omega arith) (lacks_initialize room (lacks d room t e))))
      (λ _. pick_ind W _ _ _ (λ e. absurd (k 8 (omega arith) (Applies.again room t e))) (λ _. refl))
    where
      W : Outcome → Type 0
      W o = o ≡ finished ended

  judge_initialize : (room : Bool) → Judged d w (initialize room t) (on_initialize d w room t).answer
  unfolding on_initialize refuse
  judge_initialize room =
      pick_ind J _ _ _ (λ e. turned 7 refl (record { applies = lacks_initialize room (lacks d room t e); least = λ m h x. below7 m h (to_initialize x) }))
      (λ e. let no7 = not_lacks d room t e in
      pick_ind J _ _ _ (λ k. turned 8 refl (record { applies = Applies.again room t k; least = λ m h x. below8 no7 m h (to_initialize x) }))
      (λ k. by no7 (λ z. true≢false (sym z ∙ k)) (refused_or (answer_of ended))))
    where
      J : Outcome → Type 0
      J o = Judged d w (initialize room t) o.answer

      below7 : (m : ℕ) → m < 7 → ToInitialize room m → ⊥
      below7 m h (is7 e x) = omega arith
      below7 m h (is8 e x) = omega arith
      below7 m h (is_work x) = omega (arith, work_number m x)

      below8 : (Lacks d room t → ⊥) → (m : ℕ) → m < 8 → ToInitialize room m → ⊥
      below8 a m h (is7 e x) = a x
      below8 a m h (is8 e x) = omega arith
      below8 a m h (is_work x) = omega (arith, work_number m x)

      only_work : (Lacks d room t → ⊥) → (w.done ≡ true → ⊥) → (m : ℕ) → ToInitialize room m → Work m
      only_work a b m (is7 e x) = absurd (a x)
      only_work a b m (is8 e x) = absurd (b x)
      only_work a b m (is_work x) = x

      by : (Lacks d room t → ⊥) → (w.done ≡ true → ⊥) → ((n : ℕ) × (answer_of ended ≡ refused n)) ⊎ (accepted (answer_of ended) ≡ true) → Judged d w (initialize room t) (answer_of ended)
      by a b (inl (n, e)) = turned n e (record {
        applies = work_applies room n (find (entered d t) (entry w t) Stage.first n e);
        least = λ m h x. let z : m ≡ n = same_number (sym (work_answer m (only_work a b m (to_initialize x))) ∙ e) in omega arith;
      })
      by a b (inr e) = passed e (λ n x. not_refused e (work_answer n (only_work a b n (to_initialize x))))

judge : (d : Plan) (w : World) (c : Call) → (asks_graph c ≡ true → Proper d) → Judged d w c (call d c w).answer
unfolding call
judge d w (initialize room t) pr = judge_initialize d w t room
judge d w (propagate room t l pending) pr = judge_propagate d w room t l pending
judge d w (undo room l) pr = judge_undo d w room l
judge d w (ask room q) pr = judge_ask d w room q pr

-- a call is refused with a number exactly when it is the first of the table that applies; a run and a page are looked
-- for on a proper plan
pub refusals : (d : Plan) (w : World) (c : Call) → (asks_graph c ≡ true → Proper d) → (n : ℕ) →
    ((call d c w).answer ≡ refused n) ↔ First d w c n
refusals d w c pr n = (λ e. to e (judge d w c pr), λ f. from f (judge d w c pr))
  where
    to : {a : Answer} → a ≡ refused n → Judged d w c a → First d w c n
    to e (turned m q f) = subst (First d w c) (same_number (sym q ∙ e)) f
    to e (passed q f) = absurd (not_refused d w [] q e)

    from : {a : Answer} → First d w c n → Judged d w c a → a ≡ refused n
    from f (turned m q g) = q ∙ ap refused (only m f.applies f.least g.applies g.least)
      where
        only : (m : ℕ) → Applies d w c n → ((k : ℕ) → k < n → Applies d w c k → ⊥) → Applies d w c m → ((k : ℕ) → k < m → Applies d w c k → ⊥) → m ≡ n
        only m a x b y = ⊎_elim (λ (h : m ≤ n). ⊎_elim (λ (k : n ≤ m). le_antisymm h k) (λ k. absurd (x m k b)) (le_or_lt n m)) (λ k. absurd (y n k a)) (le_or_lt m n)
    from f (passed q g) = absurd (g n f.applies)

-- and accepted exactly when none applies
pub acceptances : (d : Plan) (w : World) (c : Call) → (asks_graph c ≡ true → Proper d) →
    (accepted (call d c w).answer ≡ true) ↔ ((n : ℕ) → Applies d w c n → ⊥)
unfolding accepted
acceptances d w c pr = (λ e. to e (judge d w c pr), λ f. from f (judge d w c pr))
  where
    to : {a : Answer} → accepted a ≡ true → Judged d w c a → (n : ℕ) → Applies d w c n → ⊥
    to e (turned m q f) = absurd (not_refused d w [] e q)
    to e (passed q f) = f

    from : {a : Answer} → ((n : ℕ) → Applies d w c n → ⊥) → Judged d w c a → accepted a ≡ true
    from f (turned m q g) = absurd (f m g.applies)
    from f (passed q g) = q
