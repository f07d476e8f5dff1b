-- Each test's number is that of the abstract call, whose room says what is lent and whose literal is the number from outside.
use mathlib.Core.Path.{◌≡◌, refl, sym, ap, ap₂, ◌∙◌}
use mathlib.Core.Bool.{Bool, true, false, not, ◌||◌}
use mathlib.Core.List.{List}
use Prim.Native.Nat.{ℕ, ◌/◌, ◌<◌}
use native.Mathlib.Omega.{arith}
use lib.IntN.{ℤ, pos}
use Rattle.base.specs.Iter.{pick}
use Rattle.base.specs.Range.{in_range, to_nat}
use Rattle.base.proofs.Loop.{pick_ind, pick_yes, pick_no, tested}
use Rattle.base.proofs.Range.{in_range_nat}
use Rattle.base.proofs.Tests.{and_left, and_no, and_next, not_false}
use Rattle.undo_log.specs.declared.Cursor.{Cursor}
use Rattle.plan.specs.Plan.{plan_of}
use Rattle.plan.specs.Proper.{ProperWords}
use Rattle.noting.specs.Note.{noting, known}
use Rattle.noting.specs.Standing.{has_variable, not_newest, standing_of}
use Rattle.noting.specs.Buffers.{table_bad, list_short, reason_short}
use Rattle.calls.specs.Table.{knows, bad_table}
use Rattle.calls.specs.Calls.{World, taken}
use Rattle.refusals.specs.Refusals.{state_bad, table_state_bad, lit_number, unknown_lit, literal_refusal, initialize_refusal, propagate_refusal, undo_refusal, fetch_refusal}
use Rattle.refusals.specs.Calls.{lit_given, table_room, state_room, fetch_room}
use Rattle.refusals.proofs.Known.{known_is, outside_unknown}
use Rattle.refusals.proofs.Tables.{bad_table_lem}
use Rattle.refusals.proofs.Standing.{taken_is}
use Rattle.refusals.proofs.State.{none_high}

pub given_inside : (l : ℤ) → in_range (pos 8191) l ≡ true → lit_given l ≡ to_nat l
unfolding lit_given
given_inside l e = pick_yes _ _ e

pub given_outside : (l : ℤ) → in_range (pos 8191) l ≡ false → lit_given l ≡ 8192
unfolding lit_given
given_outside l e = pick_no _ _ e

pub number_inside : (l : ℤ) → in_range (pos 8191) l ≡ true → lit_number l ≡ lit_given l
unfolding lit_number
number_inside l e = pick_yes _ _ e ∙ sym (given_inside l e)

pub given_small : (l : ℤ) → lit_given l < 65535
unfolding lit_given
given_small l = pick_ind (λ (n : ℕ). n < 65535) (in_range (pos 8191) l) (to_nat l) 8192 (λ e. let h = in_range_nat 8191 l e in omega arith) (λ _. omega arith)

-- what the test of the literal leaves is a literal of the plan
pub known_inside : (ws : List ℕ) (l : ℤ) → unknown_lit ws l ≡ false → in_range (pos 8191) l ≡ true
unfolding unknown_lit
known_inside ws l e = and_left (in_range (pos 8191) l) _ (not_false _ e)

pub number_given : (ws : List ℕ) (l : ℤ) → unknown_lit ws l ≡ false → lit_number l ≡ lit_given l
number_given ws l e = number_inside l (known_inside ws l e)

-- the choices, over plain tests
table_case : (s h a b : Bool) (x y : ℕ) → (s ≡ false → a ≡ b) → (s ≡ false → x ≡ y) → pick (s || (h || a)) 7 x ≡ pick (not (not (s || h)) || b) 7 y
unfolding pick
table_case true h a b x y f g = refl
table_case false true a b x y f g = refl
table_case false false a b x y f g = ap₂ (λ (c : Bool) (z : ℕ). pick c 7 z) (f refl) (g refl)

state_case : (s : Bool) (x y : ℕ) → (s ≡ false → x ≡ y) → pick s 7 x ≡ pick (not (not s)) 7 y
unfolding pick
state_case true x y g = refl
state_case false x y g = g refl

module _ (ws : List ℕ) (ends : List (List ℕ)) (p : ProperWords ws ends) where
  module _ (l : ℤ) where
    pub unknown_is : unknown_lit ws l ≡ not (knows (plan_of ws ends) (lit_given l))
    unfolding unknown_lit
    unknown_is = tested (in_range (pos 8191) l)
        (λ e. sym (ap not (and_next (known ws (lit_number l / 2)) _ e (sym (ap (λ (n : ℕ). known ws (n / 2)) (number_inside l e) ∙ known_is ws ends p (lit_given l))))))
        (λ e. sym (ap not (and_no (known ws (lit_number l / 2)) e))
        ∙ sym (ap not (ap (knows (plan_of ws ends)) (given_outside l e) ∙ outside_unknown ws ends p 8192 (omega arith))))

    -- 9
    pub literal_is : literal_refusal ws l ≡ pick (not (knows (plan_of ws ends) (lit_given l))) 9 0
    unfolding literal_refusal
    literal_is = ap (λ (b : Bool). pick b 9 0) unknown_is

    literal_case : (x y : ℕ) → (in_range (pos 8191) l ≡ true → x ≡ y) → pick (unknown_lit ws l) 9 x ≡ pick (not (knows (plan_of ws ends) (lit_given l))) 9 y
    literal_case x y f = tested (unknown_lit ws l)
        (λ e. pick_yes _ _ e ∙ sym (pick_yes _ _ (sym unknown_is ∙ e)))
        (λ e. pick_no _ _ e ∙ f (known_inside ws l e) ∙ sym (pick_no _ _ (sym unknown_is ∙ e)))

  module _ (noted log : List ℕ) (c : Cursor) (w : World) where
    -- 7 and 8
    pub initialize_is : (t : List ℕ) (n : ℕ) →
        initialize_refusal ws ends noted t n log c w.done ≡ pick (not (table_room ws ends noted n log c) || bad_table (plan_of ws ends) t) 7 (pick w.done 8 0)
    unfolding initialize_refusal table_state_bad table_room pick
    initialize_is t n =
        ap (λ (b : Bool). pick (table_state_bad ws ends noted t n log c) 7 (pick b 7 (pick w.done 8 0))) (none_high ws ends p)
        ∙ table_case (state_bad ws ends noted log c) (list_short ws n) (table_bad ws t) (bad_table (plan_of ws ends) t) _ _
        (λ _. bad_table_lem ws ends p t) (λ _. refl)

    -- 7
    pub fetch_is : (n : ℕ) → fetch_refusal ws ends noted n log c ≡ pick (not (fetch_room ws ends noted n log c)) 7 0
    unfolding fetch_refusal fetch_room
    fetch_is n = state_case (state_bad ws ends noted log c || reason_short ws n) 0 0 (λ _. refl)

    module _ (s : w.standing ≡ standing_of (noting noted log c)) (l : ℤ) where
      -- 7, 9 and 10
      pub propagate_is : (t : List ℕ) (n : ℕ) →
          propagate_refusal ws ends noted t n log c l
          ≡ pick (not (table_room ws ends noted n log c) || bad_table (plan_of ws ends) t) 7 (pick (not (knows (plan_of ws ends) (lit_given l))) 9 (pick (taken w (lit_given l)) 10 0))
      unfolding propagate_refusal table_state_bad table_room
      propagate_is t n = table_case (state_bad ws ends noted log c) (list_short ws n) (table_bad ws t) (bad_table (plan_of ws ends) t) _ _
          (λ _. bad_table_lem ws ends p t)
          (λ _. literal_case l _ _ (λ i. ap (λ (b : Bool). pick b 10 0)
          (ap₂ (λ (m : ℕ) (ls : List ℕ). has_variable (m / 2) ls) (number_inside l i) (sym s) ∙ taken_is w (lit_given l))))

      -- 7, 9 and 11
      pub undo_is : undo_refusal ws ends noted log c l
          ≡ pick (not (state_room ws ends noted log c)) 7 (pick (not (knows (plan_of ws ends) (lit_given l))) 9 (pick (not_newest (lit_given l) w.standing) 11 0))
      unfolding undo_refusal state_room
      undo_is = state_case (state_bad ws ends noted log c) _ _
          (λ _. literal_case l _ _ (λ i. ap (λ (b : Bool). pick b 11 0)
          (ap₂ (λ (m : ℕ) (ls : List ℕ). not_newest m ls) (number_inside l i) (sym s))))
