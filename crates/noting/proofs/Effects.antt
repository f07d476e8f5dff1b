-- What an effect is, and that taking its record back gives the noted words as they were.
use mathlib.Core.Path.{◌≡◌, refl, sym, ap, ap₂, subst, ◌∙◌}
use mathlib.Core.Bool.{true}
use mathlib.Core.List.{List}
use Prim.Native.Nat.{ℕ, ◌+◌, ◌-◌, ◌/◌, ◌%◌, ◌≤◌, ◌<◌}
use native.Mathlib.Omega.{arith}
use lib.Dec.{eqb, ltb}
use lib.ListN.{get_or, set}
use lib.Seq.{set-set, set_comm, set-get_or}
use borrow.Author.Tests.{lt-ltb, ltb-true, ltb-false}
use Rattle.base.specs.Iter.{pick}
use Rattle.base.proofs.Loop.{pick_ind, pick_yes, pick_no}
use Rattle.base.proofs.Tests.{and_left}
use Rattle.plan.specs.Words.{word, vertices_of, domain_of, lit_of}
use Rattle.plan.specs.Check.{used_slot}
use Rattle.noting.specs.declared.note.Effect.{Effect}
use Rattle.noting.specs.Words.{edge_state_of, bound_at, lower_of, upper_of}
use Rattle.noting.specs.Note.{size_effect, edge_effect, effect_of, undo_record, bound_set, edge_set, applied}
use Rattle.noting.specs.Undo.{restored}
use Rattle.noting.specs.Ready.{Effective, idle, edge, low, high, BoundsFit}

pub effective : (ws noted : List ℕ) (l s : ℕ) → Effective ws noted l s (effect_of ws noted l s)
unfolding effect_of size_effect edge_effect
effective ws noted l s =
    pick_ind (Effective ws noted l s) (ltb s 2048) _ _
    (λ h. let k = ltb-true s 2048 h in
    pick_ind (Effective ws noted l s) (eqb (lit_of ws s) l) _ _
    (λ _. pick_ind (Effective ws noted l s) (ltb (lower_of noted (s / 32)) (domain_of ws (s / 32) (s % 32 + 1))) _ _ (λ t. low k (ltb-true _ _ t)) (λ _. idle))
    (λ _. pick_ind (Effective ws noted l s) (ltb (domain_of ws (s / 32) (s % 32)) (upper_of noted (s / 32))) _ _ (λ t. high k (ltb-true _ _ t)) (λ _. idle)))
    (λ h. pick_ind (Effective ws noted l s) (ltb s 2176) _ _ (λ t. edge (ltb-false s 2048 h) (ltb-true s 2176 t)) (λ _. idle))

module _ (noted : List ℕ) where
  -- a store is taken back by storing what stood there
  set_back : (i x : ℕ) → set (set noted i x) i (get_or noted i 0) ≡ noted
  set_back i x = set-set noted i x (get_or noted i 0) ∙ set-get_or noted i 0

  two_back : (i j x y : ℕ) → (i ≡ j → ⊥) → set (set (set (set noted i x) j y) i (get_or noted i 0)) j (get_or noted j 0) ≡ noted
  two_back i j x y ne =
      ap (λ (m : List ℕ). set m j (get_or noted j 0)) (set_comm (set noted i x) j i y (get_or noted i 0) (λ (e : j ≡ i). ne (sym e)))
      ∙ set-set (set (set noted i x) i (get_or noted i 0)) j y (get_or noted j 0)
      ∙ ap (λ (m : List ℕ). set m j (get_or noted j 0)) (set_back i x)
      ∙ set-get_or noted j 0

  -- bounds at `from`, their literals 128 places on
  bound_back : (from past v x l : ℕ) → v < 64 → bound_at (from + 128) past noted v < 65536 → bound_set from v (bound_at from 0 noted v) (bound_at (from + 128) past noted v % 65536) (bound_set from v x l noted) ≡ noted
  unfolding bound_set bound_at
  bound_back from past v x l h k =
      let y = lt-ltb v 64 h in
      let k' : get_or noted (from + 128 + v) 0 < 65536 = subst (λ (n : ℕ). n < 65536) (pick_yes _ _ y) k in
      let m : get_or noted (from + 128 + v) 0 % 65536 ≡ get_or noted (from + 128 + v) 0 = omega arith in
      pick_yes _ _ y
      ∙ ap (λ (z : List ℕ). set (set z (from + v) (pick (ltb v 64) (word noted (from + v)) 0)) (from + 128 + v) (pick (ltb v 64) (word noted (from + 128 + v)) past % 65536)) (pick_yes _ _ y)
      ∙ ap₂ (λ (a b : ℕ). set (set (set (set noted (from + v) x) (from + 128 + v) l) (from + v) a) (from + 128 + v) (b % 65536)) (pick_yes _ _ y) (pick_yes _ _ y)
      ∙ ap (λ (b : ℕ). set (set (set (set noted (from + v) x) (from + 128 + v) l) (from + v) (word noted (from + v))) (from + 128 + v) b) m
      ∙ two_back (from + v) (from + 128 + v) x l (λ (e : from + v ≡ from + 128 + v). omega arith)

  edge_back : (g x : ℕ) → edge_state_of noted g ≡ 0 → edge_set g 0 (edge_set g x noted) ≡ noted
  unfolding edge_set edge_state_of
  edge_back g x =
      pick_ind (λ (n : ℕ). n ≡ 0 → pick (ltb g 128) (set (pick (ltb g 128) (set noted g x) noted) g 0) (pick (ltb g 128) (set noted g x) noted) ≡ noted) (ltb g 128) (word noted g) 0
      (λ y e. pick_yes _ _ y ∙ ap (λ (z : List ℕ). set z g 0) (pick_yes _ _ y) ∙ ap (λ (n : ℕ). set (set noted g x) g n) (sym e) ∙ set_back g x)
      (λ n _. pick_no _ _ n ∙ pick_no _ _ n)

-- a size literal's slot is a vertex's
pub slot_vertex : (ws : List ℕ) (s : ℕ) → used_slot ws s ≡ true → s < 2048 → s / 32 < vertices_of ws
unfolding used_slot
slot_vertex ws s u h = ltb-true _ _ (and_left _ _ (sym (pick_yes _ _ (lt-ltb s 2048 h)) ∙ u))

-- taking an effect's record back undoes it; an edge was undecided
pub restore_applied : (ws noted : List ℕ) (l s : ℕ) → BoundsFit ws noted → used_slot ws s ≡ true → (2048 ≤ s → s < 2176 → edge_state_of noted (s - 2048) ≡ 0) → (e : Effect) → Effective ws noted l s e → restored (undo_record noted e) (applied e l noted) ≡ noted
unfolding restored undo_record applied pick
restore_applied ws noted l s f u d e idle = refl
restore_applied ws noted l s f u d e (edge a b) = edge_back noted (s - 2048) _ (d a b)
restore_applied ws noted l s f u d e (low a b) = bound_back noted 128 65535 (s / 32) _ l (omega arith) (f.lower_lit (s / 32) (slot_vertex ws s u a) (omega arith))
restore_applied ws noted l s f u d e (high a b) = bound_back noted 192 65535 (s / 32) _ l (omega arith) (f.upper_lit (s / 32) (slot_vertex ws s u a) (omega arith))
