-- What stands in the noted words after an effect.
use mathlib.Core.Path.{◌≡◌, refl, sym, subst, ◌∙◌}
use mathlib.Core.Logic.{⊎_elim}
use mathlib.Core.Bool.{true}
use mathlib.Core.List.{List}
use Prim.Native.Nat.{ℕ, ◌+◌, ◌-◌, ◌/◌, ◌%◌, ◌≤◌, ◌<◌}
use native.Mathlib.Omega.{arith}
use lib.Dec.{eqb, ltb}
use lib.ListN.{length, get_or, set}
use lib.Seq.{get_or-set_same, get_or-set_other, set_out}
use borrow.Author.Tests.{lt-ltb, ltb-true}
use Rattle.base.specs.Iter.{pick}
use Rattle.base.proofs.Loop.{pick_ind, pick_yes, pick_no, eq_or_not}
use Rattle.base.proofs.Tests.{le_or_lt, and_left, and_right}
use Rattle.undo_log.proofs.Words.{InRange}
use Rattle.plan.specs.Words.{word, vertices_of, domain_len_of, domain_of, lit_of}
use Rattle.plan.specs.Check.{used_slot}
use Rattle.plan.specs.Proper.{ProperWords}
use Rattle.noting.specs.declared.note.Effect.{Effect}
use Rattle.noting.specs.Words.{edge_state_of, bound_at}
use Rattle.noting.specs.Note.{undo_record, bound_set, edge_set, applied}
use Rattle.noting.specs.Ready.{Effective, idle, edge, low, high, BoundsFit, SizesFit}
use Rattle.noting.proofs.Effects.{slot_vertex}

-- what stands in a list after a store is what was stored or what stood there
pub set_holds : (P : ℕ → Type 0) (m : List ℕ) (q r a : ℕ) → P a → P (get_or m r 0) → P (get_or (set m q a) r 0)
set_holds P m q r a pa pm = ⊎_elim
    (λ (e : r ≡ q). ⊎_elim
    (λ (h : length m ≤ q). subst (λ (z : List ℕ). P (get_or z r 0)) (sym (set_out m q a h)) pm)
    (λ (h : q < length m). subst (λ (i : ℕ). P (get_or (set m q a) i 0)) (sym e) (subst P (sym (get_or-set_same m q a 0 h)) pa))
    (le_or_lt (length m) q))
    (λ f. subst P (sym (get_or-set_other m q r a 0 f)) pm)
    (eq_or_not r q)

words_fit : (P : ℕ → Type 0) (noted : List ℕ) (from v x l r : ℕ) → P x → P l → P (get_or noted r 0) → P (get_or (bound_set from v x l noted) r 0)
unfolding bound_set
words_fit P noted from v x l r px pl pn =
    pick_ind (λ (z : List ℕ). P (get_or z r 0)) (ltb v 64) _ _ (λ _. set_holds P (set noted (from + v) x) (from + 128 + v) r l pl (set_holds P noted (from + v) r x px pn)) (λ _. pn)

-- a literal's place is no bound's
lits_fit : (P : ℕ → Type 0) (noted : List ℕ) (from v x l r : ℕ) → from ≤ 192 → 256 ≤ r → P l → P (get_or noted r 0) → P (get_or (bound_set from v x l noted) r 0)
unfolding bound_set
lits_fit P noted from v x l r f h pl pn =
    pick_ind (λ (z : List ℕ). P (get_or z r 0)) (ltb v 64) _ _
    (λ t. let k = ltb-true v 64 t in set_holds P (set noted (from + v) x) (from + 128 + v) r l pl (subst P (sym (get_or-set_other noted (from + v) r x 0 (λ (e : r ≡ from + v). omega arith))) pn))
    (λ _. pn)

pub sizes_fit : (ws : List ℕ) (ends : List (List ℕ)) → ProperWords ws ends → SizesFit ws
unfolding used_slot
sizes_fit ws ends p s u h =
    let t = sym (pick_yes _ _ (lt-ltb s 2048 h)) ∙ u in
    let v = ltb-true (s / 32) (vertices_of ws) (and_left _ _ t) in
    let j = ltb-true (s % 32 + 1) (domain_len_of ws (s / 32)) (and_right (ltb (s / 32) (vertices_of ws)) _ t) in
    let a = p.entries (s / 32) (s % 32) v (omega arith) in
    let b = p.entries (s / 32) (s % 32 + 1) v j in
    (omega arith, omega arith)

bound_place : (from past v : ℕ) (noted : List ℕ) → v < 64 → bound_at from past noted v ≡ get_or noted (from + v) 0
unfolding bound_at
bound_place from past v noted h = pick_yes _ _ (lt-ltb v 64 h)

module _ (ws noted : List ℕ) (l s : ℕ) where
  -- an effect decides no edge but its own
  pub applied_edge : (g : ℕ) → (2048 ≤ s → g ≡ s - 2048 → ⊥) → (e : Effect) → Effective ws noted l s e → edge_state_of (applied e l noted) g ≡ edge_state_of noted g
  unfolding applied pick edge_set edge_state_of bound_set
  applied_edge g n e t = go e t
    where
      same : (m : List ℕ) → (g < 128 → get_or m g 0 ≡ get_or noted g 0) → pick (ltb g 128) (word m g) 0 ≡ pick (ltb g 128) (word noted g) 0
      same m h = pick_ind (λ (x : ℕ). x ≡ pick (ltb g 128) (word noted g) 0) (ltb g 128) (word m g) 0
          (λ y. h (ltb-true g 128 y) ∙ sym (pick_yes _ _ y)) (λ y. sym (pick_no _ _ y))

      bound : (from v x : ℕ) → 128 ≤ from → g < 128 → get_or (pick (ltb v 64) (set (set noted (from + v) x) (from + 128 + v) l) noted) g 0 ≡ get_or noted g 0
      bound from v x f h =
          pick_ind (λ (z : List ℕ). get_or z g 0 ≡ get_or noted g 0) (ltb v 64) _ _
          (λ _. get_or-set_other (set noted (from + v) x) (from + 128 + v) g l 0 (λ (c : g ≡ from + 128 + v). omega arith) ∙ get_or-set_other noted (from + v) g x 0 (λ (c : g ≡ from + v). omega arith)) (λ _. refl)

      go : (e : Effect) → Effective ws noted l s e → edge_state_of (applied e l noted) g ≡ edge_state_of noted g
      go e idle = refl
      go e (edge a b) = same (pick (ltb (s - 2048) 128) (set noted (s - 2048) (pick (eqb (lit_of ws s) l) 1 2)) noted) (λ h. pick_ind (λ (z : List ℕ). get_or z g 0 ≡ get_or noted g 0) (ltb (s - 2048) 128) _ _ (λ _. get_or-set_other noted (s - 2048) g _ 0 (n a)) (λ _. refl))
      go e (low a b) = same (pick (ltb (s / 32) 64) (set (set noted (128 + s / 32) (domain_of ws (s / 32) (s % 32 + 1))) (128 + 128 + s / 32) l) noted) (bound 128 (s / 32) (domain_of ws (s / 32) (s % 32 + 1)) (omega arith))
      go e (high a b) = same (pick (ltb (s / 32) 64) (set (set noted (192 + s / 32) (domain_of ws (s / 32) (s % 32))) (192 + 128 + s / 32) l) noted) (bound 192 (s / 32) (domain_of ws (s / 32) (s % 32)) (omega arith))

module _ (ws noted : List ℕ) (l s : ℕ) (wl : l < 65536) (fw : SizesFit ws) (u : used_slot ws s ≡ true) where
  bound_kept : (from past v : ℕ) → 128 ≤ from → v < 64 → bound_at from past noted v < 4294967296 → (e : Effect) → Effective ws noted l s e → bound_at from past (applied e l noted) v < 4294967296
  unfolding applied pick edge_set
  bound_kept from past v h k p e t =
      subst (λ (n : ℕ). n < 4294967296) (sym (bound_place from past v (applied e l noted) k)) (go e t)
    where
      q : get_or noted (from + v) 0 < 4294967296
      q = subst (λ (n : ℕ). n < 4294967296) (bound_place from past v noted k) p

      go : (e : Effect) → Effective ws noted l s e → get_or (applied e l noted) (from + v) 0 < 4294967296
      go e idle = q
      go e (edge a b) =
          pick_ind (λ (z : List ℕ). get_or z (from + v) 0 < 4294967296) (ltb (s - 2048) 128) _ _
          (λ _. set_holds (λ (n : ℕ). n < 4294967296) noted (s - 2048) (from + v) _ (pick_ind (λ (n : ℕ). n < 4294967296) (eqb (lit_of ws s) l) 1 2 (λ _. omega arith) (λ _. omega arith)) q) (λ _. q)
      go e (low a b) = words_fit (λ (n : ℕ). n < 4294967296) noted 128 (s / 32) _ l (from + v) (fw s u a).1 (omega arith) q
      go e (high a b) = words_fit (λ (n : ℕ). n < 4294967296) noted 192 (s / 32) _ l (from + v) (fw s u a).0 (omega arith) q

  lit_kept : (from v : ℕ) → 256 ≤ from → v < 64 → bound_at from 65535 noted v < 65536 → (e : Effect) → Effective ws noted l s e → bound_at from 65535 (applied e l noted) v < 65536
  unfolding applied pick edge_set
  lit_kept from v h k p e t =
      subst (λ (n : ℕ). n < 65536) (sym (bound_place from 65535 v (applied e l noted) k)) (go e t)
    where
      q : get_or noted (from + v) 0 < 65536
      q = subst (λ (n : ℕ). n < 65536) (bound_place from 65535 v noted k) p

      go : (e : Effect) → Effective ws noted l s e → get_or (applied e l noted) (from + v) 0 < 65536
      go e idle = q
      go e (edge a b) =
          pick_ind (λ (z : List ℕ). get_or z (from + v) 0 < 65536) (ltb (s - 2048) 128) _ _
          (λ _. subst (λ (n : ℕ). n < 65536) (sym (get_or-set_other noted (s - 2048) (from + v) _ 0 (λ (c : from + v ≡ s - 2048). omega arith))) q) (λ _. q)
      go e (low a b) = lits_fit (λ (n : ℕ). n < 65536) noted 128 (s / 32) _ l (from + v) (omega arith) (omega arith) wl q
      go e (high a b) = lits_fit (λ (n : ℕ). n < 65536) noted 192 (s / 32) _ l (from + v) (omega arith) (omega arith) wl q

  pub applied_bounds : BoundsFit ws noted → (e : Effect) → Effective ws noted l s e → BoundsFit ws (applied e l noted)
  applied_bounds f e t = record {
    lower = λ v q h. bound_kept 128 0 v (omega arith) h (f.lower v q h) e t;
    upper = λ v q h. bound_kept 192 0 v (omega arith) h (f.upper v q h) e t;
    lower_lit = λ v q h. lit_kept 256 v (omega arith) h (f.lower_lit v q h) e t;
    upper_lit = λ v q h. lit_kept 320 v (omega arith) h (f.upper_lit v q h) e t;
  }

  -- the record that an effect leaves fits its word
  pub record_fits : BoundsFit ws noted → (e : Effect) → Effective ws noted l s e → InRange (undo_record noted e)
  unfolding undo_record pick
  record_fits f e idle = record { kind = omega arith; index = omega arith; bound = omega arith; lit = omega arith }
  record_fits f e (edge a b) = record { kind = omega arith; index = omega arith; bound = omega arith; lit = omega arith }
  record_fits f e (low a b) = record { kind = omega arith; index = omega arith; bound = f.lower (s / 32) (slot_vertex ws s u a) (omega arith); lit = omega arith }
  record_fits f e (high a b) = record { kind = omega arith; index = omega arith; bound = f.upper (s / 32) (slot_vertex ws s u a) (omega arith); lit = omega arith }
