-- Noting a literal in the words is the abstract state's `note_one`.
use mathlib.Core.Path.{◌≡◌, refl, sym, ap, ap₂, subst, ◌∙◌}
use mathlib.Core.Logic.{◌⊎◌, ⊎_elim}
use mathlib.Core.Bool.{Bool, true, false}
use mathlib.Core.List.{List}
use Prim.Native.Nat.{ℕ, ◌+◌, ◌-◌, ◌/◌, ◌≤◌, ◌<◌}
use native.Mathlib.Omega.{arith}
use lib.Dec.{eqb, ltb}
use lib.ListN.{length, get_or, set}
use lib.Seq.{get_or-set_same}
use borrow.Author.Tests.{lt-ltb, le-ltb, eq-eqb, ne_eqb, eqb-true, eqb-false}
use Rattle.base.specs.Iter.{iter, pick}
use Rattle.base.proofs.Loop.{pick_ind, pick_yes, pick_no, tested}
use Rattle.base.proofs.Lists.{tab_at}
use Rattle.base.proofs.Tests.{and_next}
use Rattle.sat.specs.Literal.{negate}
use Rattle.plan.specs.Words.{word, entry, edges_of, lit_of, edge_lit_of}
use Rattle.plan.specs.Check.{used_slot}
use Rattle.plan.specs.Plan.{plan_of}
use Rattle.plan.specs.Proper.{ProperWords}
use Rattle.division.specs.Noting.{Bound, raise, lessen, turn, note_one}
use Rattle.division.specs.Agree.{SameState}
use Rattle.noting.specs.declared.note.Effect.{Effect}
use Rattle.noting.specs.Words.{edge_state_of, state_of}
use Rattle.noting.specs.Note.{Noting, effect, edge_effect, edge_set, effect_of, applied, is_of, level_pushed, note, note_lit}
use Rattle.noting.proofs.Effects.{effective}
use Rattle.noting.proofs.After.{applied_edge}
use Rattle.noting.proofs.Block.{block}
use Rattle.noting.proofs.Agrees.{slot_noted, slot_noted_length, words_after}
use Rattle.noting.proofs.Vertex.{one_variable, negate_other, low_after, high_after}
use Rattle.noting.proofs.Indexed.{note_is}

module _ (ws : List ℕ) (ends : List (List ℕ)) (p : ProperWords ws ends) (l : ℕ) (small : l < 65535) where
  module _ (g : ℕ) (hg : g < edges_of ws) where
    g128 : g < 128
    g128 = omega (arith, p.fine.fits)

    back : 2048 + g - 2048 ≡ g
    back = omega arith

    edge_used : used_slot ws (2048 + g) ≡ true
    unfolding used_slot
    edge_used = pick_no _ _ (le-ltb (2048 + g) 2048 (omega arith)) ∙ ap (λ (n : ℕ). ltb n (edges_of ws)) back ∙ lt-ltb g (edges_of ws) hg

    pub edge_lit : lit_of ws (2048 + g) ≡ edge_lit_of ws g
    unfolding entry
    edge_lit =
        let e : 2184 + (2048 + g) ≡ 4232 + g = omega arith in
        pick_yes _ _ (lt-ltb (2048 + g) 2176 (omega (arith, g128))) ∙ ap (word ws) e ∙ sym (pick_yes _ _ (lt-ltb g 128 g128))

    edge_effect_lem : (noted : List ℕ) → effect_of ws noted l (2048 + g) ≡ effect 1 g (pick (eqb (edge_lit_of ws g) l) 1 2)
    unfolding effect_of edge_effect
    edge_effect_lem noted =
        pick_no _ _ (le-ltb (2048 + g) 2048 (omega arith)) ∙ pick_yes _ _ (lt-ltb (2048 + g) 2176 (omega (arith, g128)))
        ∙ ap₂ (λ (a n : ℕ). effect 1 n (pick (eqb a l) 1 2)) edge_lit back

    edge_of : is_of ws (l / 2) (2048 + g) ≡ eqb (edge_lit_of ws g / 2) (l / 2)
    unfolding is_of
    edge_of = sym (and_next _ _ edge_used (ap (λ (a : ℕ). eqb (a / 2) (l / 2)) (sym edge_lit)))

    edge_now : (x : ℕ) (noted : List ℕ) → length noted ≡ 384 → edge_state_of (applied (effect 1 g x) l noted) g ≡ x
    unfolding applied pick edge_set edge_state_of
    edge_now x noted len =
        pick_yes _ _ (lt-ltb g 128 g128) ∙ ap (λ (m : List ℕ). word m g) (pick_yes (set noted g x) noted (lt-ltb g 128 g128)) ∙ get_or-set_same noted g x 0 (omega (arith, g128))

    edge_step : (noted : List ℕ) → length noted ≡ 384 → edge_state_of (slot_noted ws l (2048 + g) noted) g ≡ turn (plan_of ws ends) l g (edge_state_of noted g)
    unfolding slot_noted turn
    edge_step noted len =
        ap₂ (λ (b : Bool) (e : Effect). edge_state_of (pick b (applied e l noted) noted) g) edge_of (edge_effect_lem noted)
        ∙ tested (eqb (edge_lit_of ws g / 2) (l / 2)) mine apart
      where
        goal : ℕ
        goal = pick (eqb l (edge_lit_of ws g)) 1 (pick (eqb l (negate (edge_lit_of ws g))) 2 (edge_state_of noted g))

        same : eqb (edge_lit_of ws g) l ≡ true → pick (eqb (edge_lit_of ws g) l) 1 2 ≡ goal
        same t = pick_yes _ _ t ∙ sym (pick_yes _ _ (eq-eqb l (edge_lit_of ws g) (sym (eqb-true (edge_lit_of ws g) l t))))

        other : eqb (edge_lit_of ws g / 2) (l / 2) ≡ true → eqb (edge_lit_of ws g) l ≡ false → pick (eqb (edge_lit_of ws g) l) 1 2 ≡ goal
        other a t =
            let n : edge_lit_of ws g ≡ l → ⊥ = eqb-false _ _ t in
            pick_no _ _ t
            ∙ sym (pick_no _ _ (ne_eqb l (edge_lit_of ws g) (λ (q : l ≡ edge_lit_of ws g). n (sym q))) ∙ pick_yes _ _ (eq-eqb l (negate (edge_lit_of ws g)) (one_variable (edge_lit_of ws g) l (eqb-true _ _ a) n)))

        mine : eqb (edge_lit_of ws g / 2) (l / 2) ≡ true → edge_state_of (pick (eqb (edge_lit_of ws g / 2) (l / 2)) (applied (effect 1 g (pick (eqb (edge_lit_of ws g) l) 1 2)) l noted) noted) g ≡ goal
        mine a =
            ap (λ (m : List ℕ). edge_state_of m g) (pick_yes _ _ a) ∙ edge_now (pick (eqb (edge_lit_of ws g) l) 1 2) noted len
            ∙ tested (eqb (edge_lit_of ws g) l) same (other a)

        apart : eqb (edge_lit_of ws g / 2) (l / 2) ≡ false → edge_state_of (pick (eqb (edge_lit_of ws g / 2) (l / 2)) (applied (effect 1 g (pick (eqb (edge_lit_of ws g) l) 1 2)) l noted) noted) g ≡ goal
        apart a =
            let n = eqb-false (edge_lit_of ws g / 2) (l / 2) a in
            ap (λ (m : List ℕ). edge_state_of m g) (pick_no _ _ a)
            ∙ sym (pick_no _ _ (ne_eqb l (edge_lit_of ws g) (λ (q : l ≡ edge_lit_of ws g). n (ap (λ (k : ℕ). k / 2) (sym q)))) ∙ pick_no _ _ (ne_eqb l (negate (edge_lit_of ws g)) (λ (q : l ≡ negate (edge_lit_of ws g)). n (negate_other (edge_lit_of ws g) l q).1)))

    edge_still : (s : ℕ) (noted : List ℕ) → (s < 2048 + g) ⊎ (2048 + g + 1 ≤ s) → edge_state_of (slot_noted ws l s noted) g ≡ edge_state_of noted g
    unfolding slot_noted
    edge_still s noted o =
        pick_ind (λ (m : List ℕ). edge_state_of m g ≡ edge_state_of noted g) (is_of ws (l / 2) s) _ _
        (λ _. applied_edge ws noted l s g (λ (a : 2048 ≤ s) (e : g ≡ s - 2048). ⊎_elim (λ (b : s < 2048 + g). omega arith) (λ (b : 2048 + g + 1 ≤ s). omega arith) o) _ (effective ws noted l s)) (λ _. refl)

    edge_after : (noted : List ℕ) → length noted ≡ 384 → edge_state_of (iter (slot_noted ws l) 2176 noted) g ≡ turn (plan_of ws ends) l g (edge_state_of noted g)
    unfolding iter
    edge_after noted len =
        block (slot_noted ws l) (λ m. edge_state_of m g) (λ _ x. turn (plan_of ws ends) l g x) (λ m. length m ≡ 384) (λ s y h. slot_noted_length ws l s y h) (2048 + g) 1
        (λ s y h o. edge_still s y o) (λ j y k h. let e : 2048 + g + j ≡ 2048 + g = omega arith in ap (λ (s : ℕ). edge_state_of (slot_noted ws l s y) g) e ∙ edge_step y h) noted len 2176 (omega (arith, g128))

  state_is : (noted : List ℕ) (g : ℕ) → g < edges_of ws → get_or noted g 0 ≡ edge_state_of noted g
  unfolding edge_state_of
  state_is noted g h = sym (pick_yes _ _ (lt-ltb g 128 (omega (arith, p.fine.fits))))

  after_agrees : (noted : List ℕ) → length noted ≡ 384 → SameState (plan_of ws ends) (state_of (iter (slot_noted ws l) 2176 noted)) (note_one (plan_of ws ends) l (state_of noted))
  unfolding note_one raise lessen
  after_agrees noted len = record {
    edge = λ g h. state_is _ g h ∙ edge_after g h noted len ∙ ap (turn (plan_of ws ends) l g) (sym (state_is noted g h)) ∙ sym (tab_at _ (edges_of ws) g h);
    lower = λ v h. ap (λ (b : Bound). b.bound) (low_after ws ends p l small v h noted len);
    upper = λ v h. ap (λ (b : Bound). b.bound) (high_after ws ends p l small v h noted len);
    lower_lit = λ v h. ap (λ (b : Bound). b.lits) (low_after ws ends p l small v h noted len);
    upper_lit = λ v h. ap (λ (b : Bound). b.lits) (high_after ws ends p l small v h noted len);
  }

  -- the noted words after `note`
  pub note_words : (x : Noting) → (note ws l x).noted ≡ iter (slot_noted ws l) 2176 x.noted
  unfolding note_lit level_pushed
  note_words x = ap (λ (y : Noting). y.noted) (note_is ws ends p l x) ∙ words_after ws l 2176 (level_pushed l x)

  -- noting a literal in the words is noting it in the state that they stand for
  pub note_agrees : (x : Noting) → length x.noted ≡ 384 → SameState (plan_of ws ends) (state_of (note ws l x).noted) (note_one (plan_of ws ends) l (state_of x.noted))
  note_agrees x len =
      subst (λ (m : List ℕ). SameState (plan_of ws ends) (state_of m) (note_one (plan_of ws ends) l (state_of x.noted))) (sym (note_words x)) (after_agrees x.noted len)
