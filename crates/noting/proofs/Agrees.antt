-- Noting a literal in the words is noting it in the state that they stand for.
use mathlib.Core.Path.{◌≡◌, refl, sym, ap, ◌∙◌}
use mathlib.Core.List.{List}
use Prim.Native.Nat.{ℕ, zero, suc, ◌+◌, ◌/◌, ◌≤◌, ◌<◌}
use native.Mathlib.Omega.{arith}
use lib.Dec.{eqb, ltb}
use lib.ListN.{length, set, length-set}
use lib.Seq.{get_or-set_same, get_or-set_other}
use borrow.Author.Tests.{lt-ltb, ltb-true, ne_eqb, eqb-true}
use Rattle.base.specs.Iter.{iter, pick}
use Rattle.base.proofs.Loop.{pick_ind, pick_yes, pick_no}
use Rattle.plan.specs.Words.{word}
use Rattle.noting.specs.declared.note.Effect.{Effect}
use Rattle.noting.specs.Words.{bound_at}
use Rattle.noting.specs.Note.{Noting, nothing, effect_of, bound_set, edge_set, applied, note_slot, is_of}

-- the noted words after slot s
unfoldable pub slot_noted : List ℕ → ℕ → ℕ → List ℕ → List ℕ
slot_noted ws l s noted = pick (is_of ws (l / 2) s) (applied (effect_of ws noted l s) l noted) noted

pub idle_applied : (e : Effect) (l : ℕ) (noted : List ℕ) → e.kind ≡ 0 → applied e l noted ≡ noted
unfolding applied
idle_applied e l noted h =
    pick_no _ _ (ne_eqb e.kind 1 (λ (q : e.kind ≡ 1). omega arith)) ∙ pick_no _ _ (ne_eqb e.kind 2 (λ (q : e.kind ≡ 2). omega arith))
    ∙ pick_no _ _ (ne_eqb e.kind 3 (λ (q : e.kind ≡ 3). omega arith))

pub nothing_applied : (l : ℕ) (noted : List ℕ) → applied nothing l noted ≡ noted
nothing_applied l noted = idle_applied nothing l noted refl

pub slot_words : (ws : List ℕ) (l s : ℕ) (x : Noting) → (note_slot ws l s x).noted ≡ applied (effect_of ws x.noted l s) l x.noted
unfolding note_slot
slot_words ws l s x =
    pick_ind (λ (y : Noting). y.noted ≡ applied (effect_of ws x.noted l s) l x.noted) (eqb (effect_of ws x.noted l s).kind 0) _ _
    (λ t. sym (idle_applied (effect_of ws x.noted l s) l x.noted (eqb-true _ _ t))) (λ _. refl)

-- the noted words after a literal
pub words_after : (ws : List ℕ) (l n : ℕ) (x : Noting) → (iter (λ s y. pick (is_of ws (l / 2) s) (note_slot ws l s y) y) n x).noted ≡ iter (slot_noted ws l) n x.noted
unfolding iter slot_noted
words_after ws l zero x = refl
words_after ws l (suc n) x =
    pick_ind (λ (z : Noting). z.noted ≡ pick (is_of ws (l / 2) n) (applied (effect_of ws y.noted l n) l y.noted) y.noted) (is_of ws (l / 2) n) (note_slot ws l n y) y
    (λ t. slot_words ws l n y ∙ sym (pick_yes _ _ t)) (λ t. sym (pick_no _ _ t))
    ∙ ap (slot_noted ws l n) (words_after ws l n x)
  where
    y : Noting
    y = iter (λ s y. pick (is_of ws (l / 2) s) (note_slot ws l s y) y) n x

-- lengths stay
pub applied_length : (e : Effect) (l : ℕ) (noted : List ℕ) → length (applied e l noted) ≡ length noted
unfolding applied edge_set bound_set
applied_length e l noted =
    pick_ind P (eqb e.kind 1) _ _
    (λ _. pick_ind P (ltb e.index 128) (set noted e.index e.value) noted (λ _. length-set noted e.index e.value) (λ _. refl))
    (λ _. pick_ind P (eqb e.kind 2) _ _ (λ _. bound 128)
    (λ _. pick_ind P (eqb e.kind 3) _ _ (λ _. bound 192) (λ _. refl)))
  where
    P : List ℕ → Type 0
    P m = length m ≡ length noted

    bound : (from : ℕ) → P (pick (ltb e.index 64) (set (set noted (from + e.index) e.value) (from + 128 + e.index) l) noted)
    bound from = pick_ind P (ltb e.index 64) (set (set noted (from + e.index) e.value) (from + 128 + e.index) l) noted (λ _. length-set (set noted (from + e.index) e.value) (from + 128 + e.index) l ∙ length-set noted (from + e.index) e.value) (λ _. refl)

pub slot_noted_length : (ws : List ℕ) (l s : ℕ) (noted : List ℕ) → length noted ≡ 384 → length (slot_noted ws l s noted) ≡ 384
unfolding slot_noted
slot_noted_length ws l s noted h = pick_ind (λ (m : List ℕ). length m ≡ 384) (is_of ws (l / 2) s) _ _ (λ _. applied_length _ l noted ∙ h) (λ _. h)

-- reading a bound after one is set
module _ (noted : List ℕ) (from v x l : ℕ) (h : v < 64) where
  set_is : bound_set from v x l noted ≡ set (set noted (from + v) x) (from + 128 + v) l
  unfolding bound_set
  set_is = pick_yes _ _ (lt-ltb v 64 h)

  pub bound_other : (to past u : ℕ) → u < 64 → (to + u ≡ from + v → ⊥) → (to + u ≡ from + 128 + v → ⊥) → bound_at to past (bound_set from v x l noted) u ≡ bound_at to past noted u
  unfolding bound_at
  bound_other to past u k a b =
      ap (λ (m : List ℕ). pick (ltb u 64) (word m (to + u)) past) set_is
      ∙ ap (λ (n : ℕ). pick (ltb u 64) n past) (get_or-set_other (set noted (from + v) x) (from + 128 + v) (to + u) l 0 b ∙ get_or-set_other noted (from + v) (to + u) x 0 a)

  module _ (len : length noted ≡ 384) (small : from ≤ 192) where
    pub bound_now : (past : ℕ) → bound_at from past (bound_set from v x l noted) v ≡ x
    unfolding bound_at
    bound_now past =
        pick_yes _ _ (lt-ltb v 64 h) ∙ ap (λ (m : List ℕ). word m (from + v)) set_is
        ∙ get_or-set_other (set noted (from + v) x) (from + 128 + v) (from + v) l 0 (λ (e : from + v ≡ from + 128 + v). omega arith)
        ∙ get_or-set_same noted (from + v) x 0 (omega arith)

    pub lit_now : (past : ℕ) → bound_at (from + 128) past (bound_set from v x l noted) v ≡ l
    unfolding bound_at
    lit_now past =
        pick_yes _ _ (lt-ltb v 64 h) ∙ ap (λ (m : List ℕ). word m (from + 128 + v)) set_is
        ∙ get_or-set_same (set noted (from + v) x) (from + 128 + v) l 0 (omega (arith, length-set noted (from + v) x))

pub edge_keeps : (noted : List ℕ) (g x to past u : ℕ) → 128 ≤ to → bound_at to past (edge_set g x noted) u ≡ bound_at to past noted u
unfolding bound_at edge_set
edge_keeps noted g x to past u k =
    pick_ind (λ (m : List ℕ). pick (ltb u 64) (word m (to + u)) past ≡ pick (ltb u 64) (word noted (to + u)) past) (ltb g 128) _ _
    (λ t. ap (λ (n : ℕ). pick (ltb u 64) n past) (get_or-set_other noted g (to + u) x 0 (λ (e : to + u ≡ g). let h = ltb-true g 128 t in omega arith)))
    (λ _. refl)
