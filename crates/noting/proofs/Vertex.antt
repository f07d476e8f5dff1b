-- A vertex's bounds after every slot: `raise` and `lessen` over the entries of its domain.
use mathlib.Core.Path.{◌≡◌, refl, sym, ap, ap₂, subst, ◌∙◌}
use mathlib.Core.Logic.{◌⊎◌, ⊎_elim}
use mathlib.Core.Bool.{Bool, true, false, ◌&&◌}
use mathlib.Core.List.{List, [], ◌∷◌}
use Prim.Native.Nat.{ℕ, zero, suc, pred, ◌+◌, ◌-◌, ◌*◌, ◌/◌, ◌%◌, ◌≤◌, ◌<◌}
use native.Mathlib.Omega.{arith}
use native.Mathlib.Numerals.{add-one}
use lib.Dec.{eqb, ltb}
use lib.ListN.{length}
use borrow.Author.Tests.{lt-ltb, ltb-true, eq-eqb, ne_eqb, eqb-true, eqb-false}
use Rattle.base.specs.Iter.{iter, pick}
use Rattle.base.proofs.Loop.{pick_ind, pick_yes, pick_no, tested, eq_or_not}
use Rattle.base.proofs.Tests.{and_left, and_right, and_next, and_no}
use Rattle.sat.specs.Literal.{negate}
use Rattle.plan.specs.Words.{word, entry, cell, vertices_of, domain_len_of, domain_of, lit_of, dom_lit_of}
use Rattle.plan.specs.Check.{used_slot}
use Rattle.plan.specs.Proper.{ProperWords}
use Rattle.division.specs.Noting.{Bound}
use Rattle.noting.specs.declared.note.Effect.{Effect}
use Rattle.noting.specs.Words.{lower_of, upper_of}
use Rattle.noting.specs.Note.{size_effect, effect_of, applied, is_of}
use Rattle.noting.proofs.Effects.{effective}
use Rattle.noting.proofs.Block.{block}
use Rattle.noting.proofs.Agrees.{slot_noted, slot_noted_length, nothing_applied}
use Rattle.noting.proofs.Bounds.{low_part, high_part, low_now, high_now, low_high, high_low, low_outside, high_outside}

-- two literals of one variable are equal, or each the other's negation
pub one_variable : (a l : ℕ) → a / 2 ≡ l / 2 → (a ≡ l → ⊥) → l ≡ negate a
unfolding negate
one_variable a l e n = tested (eqb (a % 2) 0)
    (λ t. let h = eqb-true (a % 2) 0 t in let k : l % 2 ≡ 1 = odd h in (let z : l ≡ a + 1 = omega arith in z) ∙ sym (pick_yes _ _ t))
    (λ t. let h = eqb-false (a % 2) 0 t in let k : l % 2 ≡ 0 = even h in (let z : l ≡ a - 1 = less h in z) ∙ sym (pick_no _ _ t))
  where
    odd : a % 2 ≡ 0 → l % 2 ≡ 1
    odd h = ⊎_elim (λ (k : l % 2 ≡ 0). absurd (n (omega arith))) (λ k. let z : (l % 2 ≡ 0) → ⊥ = k in two z) (eq_or_not (l % 2) 0)
      where
        two : (l % 2 ≡ 0 → ⊥) → l % 2 ≡ 1
        two z = ⊎_elim (λ (q : l % 2 ≡ 1). q) (λ q. absurd (z (omega arith))) (eq_or_not (l % 2) 1)

    even : (a % 2 ≡ 0 → ⊥) → l % 2 ≡ 0
    even h = ⊎_elim (λ (k : l % 2 ≡ 0). k) (λ (k : l % 2 ≡ 0 → ⊥). absurd (n (omega arith))) (eq_or_not (l % 2) 0)

    less : (a % 2 ≡ 0 → ⊥) → l ≡ a - 1
    less h = let k : l % 2 ≡ 0 = even h in omega arith

pub negate_other : (a l : ℕ) → l ≡ negate a → (a ≡ l → ⊥) × (a / 2 ≡ l / 2)
unfolding negate
negate_other a l e = tested (eqb (a % 2) 0)
    (λ t. let h = eqb-true (a % 2) 0 t in let z : l ≡ a + 1 = e ∙ pick_yes _ _ t in ((λ (q : a ≡ l). omega arith), omega arith))
    (λ t. let h = eqb-false (a % 2) 0 t in let z : l ≡ a - 1 = e ∙ pick_no _ _ t in ((λ (q : a ≡ l). omega arith), omega arith))

below_pred : (j n : ℕ) → j < pred n → suc j < n
below_pred j zero h = absurd (omega arith)
below_pred j (suc n) h = omega arith

pub pred_le : (n : ℕ) → pred n ≤ n
pred_le zero = omega arith
pred_le (suc n) = omega arith

module _ (ws : List ℕ) (ends : List (List ℕ)) (p : ProperWords ws ends) (l : ℕ) (small : l < 65535) (v : ℕ) (hv : v < vertices_of ws) where
  v64 : v < 64
  v64 = omega (arith, p.fine.vertices)

  module _ (j : ℕ) (hj : suc j < domain_len_of ws v) where
    j31 : j < 31
    j31 = let s = p.short v hv in omega arith

    over : (32 * v + j) / 32 ≡ v
    over = omega (arith, j31)

    rest : (32 * v + j) % 32 ≡ j
    rest = omega (arith, j31)

    pub slot_used : used_slot ws (32 * v + j) ≡ true
    unfolding used_slot
    slot_used =
        pick_yes _ _ (lt-ltb (32 * v + j) 2048 (omega (arith, j31, v64)))
        ∙ ap₂ (λ (a b : ℕ). ltb a (vertices_of ws) && ltb (b + 1) (domain_len_of ws a)) over rest
        ∙ sym (and_next _ _ (lt-ltb v (vertices_of ws) hv) (sym (lt-ltb (j + 1) (domain_len_of ws v) (omega arith))))

    pub slot_lit : lit_of ws (32 * v + j) ≡ dom_lit_of ws v j
    unfolding entry cell
    slot_lit =
        let e : 2184 + (32 * v + j) ≡ 2184 + 32 * v + j = omega arith in
        pick_yes _ _ (lt-ltb (32 * v + j) 2176 (omega (arith, j31, v64))) ∙ ap (word ws) e
        ∙ sym (pick_yes _ _ (lt-ltb v 64 v64) ∙ pick_yes _ _ (lt-ltb j 32 (omega (arith, j31))))

    slot_effect : (noted : List ℕ) → effect_of ws noted l (32 * v + j) ≡ size_effect ws noted (eqb (dom_lit_of ws v j) l) v j
    unfolding effect_of
    slot_effect noted =
        pick_yes _ _ (lt-ltb (32 * v + j) 2048 (omega (arith, j31, v64)))
        ∙ ap₂ (λ (a b : ℕ). size_effect ws noted (eqb (lit_of ws (32 * v + j)) l) a b) over rest
        ∙ ap (λ (a : ℕ). size_effect ws noted (eqb a l) v j) slot_lit

    slot_of : is_of ws (l / 2) (32 * v + j) ≡ eqb (dom_lit_of ws v j / 2) (l / 2)
    unfolding is_of
    slot_of = sym (and_next _ _ slot_used (ap (λ (a : ℕ). eqb (a / 2) (l / 2)) (sym slot_lit)))

    slot_now : (noted : List ℕ) → slot_noted ws l (32 * v + j) noted ≡ pick (eqb (dom_lit_of ws v j / 2) (l / 2)) (applied (size_effect ws noted (eqb (dom_lit_of ws v j) l) v j) l noted) noted
    unfolding slot_noted
    slot_now noted = ap₂ (λ (b : Bool) (e : Effect). pick b (applied e l noted) noted) slot_of (slot_effect noted)

    -- the literal itself raises the lower bound
    low_step : (noted : List ℕ) → length noted ≡ 384 → low_part v (slot_noted ws l (32 * v + j) noted) ≡ pick (eqb l (dom_lit_of ws v j) && ltb (lower_of noted v) (domain_of ws v (suc j))) (record { bound = domain_of ws v (suc j); lits = l ∷ [] }) (low_part v noted)
    unfolding size_effect
    low_step noted len = ap (low_part v) (slot_now noted) ∙ tested (eqb (dom_lit_of ws v j) l) same other
      where
        goal : Bound
        goal = pick (eqb l (dom_lit_of ws v j) && ltb (lower_of noted v) (domain_of ws v (suc j))) (record { bound = domain_of ws v (suc j); lits = l ∷ [] }) (low_part v noted)

        one : j + 1 ≡ suc j
        one = add-one j

        same : eqb (dom_lit_of ws v j) l ≡ true → low_part v (pick (eqb (dom_lit_of ws v j / 2) (l / 2)) (applied (size_effect ws noted (eqb (dom_lit_of ws v j) l) v j) l noted) noted) ≡ goal
        same t =
            let e : dom_lit_of ws v j ≡ l = eqb-true _ _ t in
            let y : eqb l (dom_lit_of ws v j) ≡ true = eq-eqb _ _ (sym e) in
            ap (low_part v) (pick_yes _ _ (eq-eqb (dom_lit_of ws v j / 2) (l / 2) (ap (λ (a : ℕ). a / 2) e)) ∙ ap (λ (x : Effect). applied x l noted) (pick_yes _ _ t))
            ∙ tested (ltb (lower_of noted v) (domain_of ws v (suc j)))
            (λ u. let u' : ltb (lower_of noted v) (domain_of ws v (j + 1)) ≡ true = ap (λ (n : ℕ). ltb (lower_of noted v) (domain_of ws v n)) one ∙ u in
            ap (λ (x : Effect). low_part v (applied x l noted)) (pick_yes _ _ u') ∙ low_now noted l v v64 len small (domain_of ws v (j + 1)) ∙ ap (λ (n : ℕ). record { bound = domain_of ws v n; lits = l ∷ [] }) one
            ∙ sym (pick_yes _ _ (sym (and_next _ _ y (sym u)))))
            (λ u. let u' : ltb (lower_of noted v) (domain_of ws v (j + 1)) ≡ false = ap (λ (n : ℕ). ltb (lower_of noted v) (domain_of ws v n)) one ∙ u in
            ap (λ (x : Effect). low_part v (applied x l noted)) (pick_no _ _ u') ∙ ap (low_part v) (nothing_applied l noted) ∙ sym (pick_no _ _ (sym (and_next _ _ y (sym u)))))

        other : eqb (dom_lit_of ws v j) l ≡ false → low_part v (pick (eqb (dom_lit_of ws v j / 2) (l / 2)) (applied (size_effect ws noted (eqb (dom_lit_of ws v j) l) v j) l noted) noted) ≡ goal
        other t =
            let n : dom_lit_of ws v j ≡ l → ⊥ = eqb-false _ _ t in
            pick_ind (λ (m : List ℕ). low_part v m ≡ low_part v noted) (eqb (dom_lit_of ws v j / 2) (l / 2)) _ _
            (λ _. ap (λ (x : Effect). low_part v (applied x l noted)) (pick_no _ _ t)
            ∙ pick_ind (λ (x : Effect). low_part v (applied x l noted) ≡ low_part v noted) (ltb (domain_of ws v j) (upper_of noted v)) _ _ (λ _. low_high noted l v v64 len small v (domain_of ws v j) v64) (λ _. ap (low_part v) (nothing_applied l noted)))
            (λ _. refl)
            ∙ sym (pick_no _ _ (sym (and_no _ (ne_eqb l (dom_lit_of ws v j) (λ (q : l ≡ dom_lit_of ws v j). n (sym q))))))

    -- its negation cuts the upper bound
    high_step : (noted : List ℕ) → length noted ≡ 384 → high_part v (slot_noted ws l (32 * v + j) noted) ≡ pick (eqb l (negate (dom_lit_of ws v j)) && ltb (domain_of ws v j) (upper_of noted v)) (record { bound = domain_of ws v j; lits = l ∷ [] }) (high_part v noted)
    unfolding size_effect
    high_step noted len = ap (high_part v) (slot_now noted) ∙ tested (eqb (dom_lit_of ws v j / 2) (l / 2)) mine apart
      where
        goal : Bound
        goal = pick (eqb l (negate (dom_lit_of ws v j)) && ltb (domain_of ws v j) (upper_of noted v)) (record { bound = domain_of ws v j; lits = l ∷ [] }) (high_part v noted)

        still : (l ≡ negate (dom_lit_of ws v j) → ⊥) → high_part v noted ≡ goal
        still n = sym (pick_no _ _ (sym (and_no _ (ne_eqb l (negate (dom_lit_of ws v j)) n))))

        same : eqb (dom_lit_of ws v j) l ≡ true → high_part v (applied (size_effect ws noted (eqb (dom_lit_of ws v j) l) v j) l noted) ≡ goal
        same t =
            ap (λ (x : Effect). high_part v (applied x l noted)) (pick_yes _ _ t)
            ∙ pick_ind (λ (x : Effect). high_part v (applied x l noted) ≡ high_part v noted) (ltb (lower_of noted v) (domain_of ws v (j + 1))) _ _ (λ _. high_low noted l v v64 len small v (domain_of ws v (j + 1)) v64) (λ _. ap (high_part v) (nothing_applied l noted))
            ∙ still (λ (q : l ≡ negate (dom_lit_of ws v j)). (negate_other (dom_lit_of ws v j) l q).0 (eqb-true _ _ t))

        other : eqb (dom_lit_of ws v j / 2) (l / 2) ≡ true → eqb (dom_lit_of ws v j) l ≡ false → high_part v (applied (size_effect ws noted (eqb (dom_lit_of ws v j) l) v j) l noted) ≡ goal
        other a t =
            let y : eqb l (negate (dom_lit_of ws v j)) ≡ true = eq-eqb _ _ (one_variable (dom_lit_of ws v j) l (eqb-true _ _ a) (eqb-false _ _ t)) in
            ap (λ (x : Effect). high_part v (applied x l noted)) (pick_no _ _ t)
            ∙ tested (ltb (domain_of ws v j) (upper_of noted v))
            (λ u. ap (λ (x : Effect). high_part v (applied x l noted)) (pick_yes _ _ u) ∙ high_now noted l v v64 len small (domain_of ws v j) ∙ sym (pick_yes _ _ (sym (and_next _ _ y (sym u)))))
            (λ u. ap (λ (x : Effect). high_part v (applied x l noted)) (pick_no _ _ u) ∙ ap (high_part v) (nothing_applied l noted) ∙ sym (pick_no _ _ (sym (and_next _ _ y (sym u)))))

        mine : eqb (dom_lit_of ws v j / 2) (l / 2) ≡ true → high_part v (pick (eqb (dom_lit_of ws v j / 2) (l / 2)) (applied (size_effect ws noted (eqb (dom_lit_of ws v j) l) v j) l noted) noted) ≡ goal
        mine a = ap (high_part v) (pick_yes _ _ a) ∙ tested (eqb (dom_lit_of ws v j) l) same (other a)

        apart : eqb (dom_lit_of ws v j / 2) (l / 2) ≡ false → high_part v (pick (eqb (dom_lit_of ws v j / 2) (l / 2)) (applied (size_effect ws noted (eqb (dom_lit_of ws v j) l) v j) l noted) noted) ≡ goal
        apart a = ap (high_part v) (pick_no _ _ a) ∙ still (λ (q : l ≡ negate (dom_lit_of ws v j)). eqb-false (dom_lit_of ws v j / 2) (l / 2) a (negate_other (dom_lit_of ws v j) l q).1)

  -- no other slot is the vertex's
  outside_slot : (s : ℕ) → (s < 32 * v) ⊎ (32 * v + pred (domain_len_of ws v) ≤ s) → is_of ws (l / 2) s ≡ true → s < 2048 → s / 32 ≡ v → ⊥
  unfolding is_of used_slot
  outside_slot s o t h e =
      let u = sym (pick_yes _ _ (lt-ltb s 2048 h)) ∙ and_left (used_slot ws s) _ t in
      let k = ltb-true (s % 32 + 1) (domain_len_of ws (s / 32)) (and_right (ltb (s / 32) (vertices_of ws)) _ u) in
      let k' : s % 32 + 1 < domain_len_of ws v = subst (λ (n : ℕ). s % 32 + 1 < domain_len_of ws n) e k in
      ⊎_elim (λ (a : s < 32 * v). omega arith) (λ (a : 32 * v + pred (domain_len_of ws v) ≤ s). past (domain_len_of ws v) k' a) o
    where
      past : (n : ℕ) → s % 32 + 1 < n → 32 * v + pred n ≤ s → ⊥
      past zero a b = omega arith
      past (suc n) a b = omega arith

  low_still : (s : ℕ) (noted : List ℕ) → length noted ≡ 384 → (s < 32 * v) ⊎ (32 * v + pred (domain_len_of ws v) ≤ s) → low_part v (slot_noted ws l s noted) ≡ low_part v noted
  unfolding slot_noted
  low_still s noted len o =
      pick_ind (λ (m : List ℕ). low_part v m ≡ low_part v noted) (is_of ws (l / 2) s) _ _ (λ t. low_outside noted l v v64 len small ws s (outside_slot s o t) _ (effective ws noted l s)) (λ _. refl)

  high_still : (s : ℕ) (noted : List ℕ) → length noted ≡ 384 → (s < 32 * v) ⊎ (32 * v + pred (domain_len_of ws v) ≤ s) → high_part v (slot_noted ws l s noted) ≡ high_part v noted
  unfolding slot_noted
  high_still s noted len o =
      pick_ind (λ (m : List ℕ). high_part v m ≡ high_part v noted) (is_of ws (l / 2) s) _ _ (λ t. high_outside noted l v v64 len small ws s (outside_slot s o t) _ (effective ws noted l s)) (λ _. refl)

  fits : 32 * v + pred (domain_len_of ws v) ≤ 2176
  fits = let s = p.short v hv in omega (arith, pred_le (domain_len_of ws v), v64)

  pub low_after : (noted : List ℕ) → length noted ≡ 384 → low_part v (iter (slot_noted ws l) 2176 noted) ≡ iter (λ j a. pick (eqb l (dom_lit_of ws v j) && ltb a.bound (domain_of ws v (suc j))) (record { bound = domain_of ws v (suc j); lits = l ∷ [] }) a) (pred (domain_len_of ws v)) (low_part v noted)
  low_after noted len =
      block (slot_noted ws l) (low_part v) (λ j a. pick (eqb l (dom_lit_of ws v j) && ltb a.bound (domain_of ws v (suc j))) (record { bound = domain_of ws v (suc j); lits = l ∷ [] }) a) (λ m. length m ≡ 384)
      (λ s y h. slot_noted_length ws l s y h) (32 * v) (pred (domain_len_of ws v)) (λ s y h o. low_still s y h o) (λ j y k h. low_step j (below_pred j _ k) y h) noted len 2176 fits

  pub high_after : (noted : List ℕ) → length noted ≡ 384 → high_part v (iter (slot_noted ws l) 2176 noted) ≡ iter (λ j a. pick (eqb l (negate (dom_lit_of ws v j)) && ltb (domain_of ws v j) a.bound) (record { bound = domain_of ws v j; lits = l ∷ [] }) a) (pred (domain_len_of ws v)) (high_part v noted)
  high_after noted len =
      block (slot_noted ws l) (high_part v) (λ j a. pick (eqb l (negate (dom_lit_of ws v j)) && ltb (domain_of ws v j) a.bound) (record { bound = domain_of ws v j; lits = l ∷ [] }) a) (λ m. length m ≡ 384)
      (λ s y h. slot_noted_length ws l s y h) (32 * v) (pred (domain_len_of ws v)) (λ s y h o. high_still s y h o) (λ j y k h. high_step j (below_pred j _ k) y h) noted len 2176 fits
