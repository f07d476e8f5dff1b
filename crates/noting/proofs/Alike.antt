-- Noted words that agree on the plan's edges and vertices: noting and undoing keep them so, with the same log and cursor.
use mathlib.Core.Path.{◌≡◌, refl, sym, ap, ap₂, subst, ◌∙◌}
use mathlib.Core.Logic.{◌⊎◌, inl, inr, ⊎_elim}
use mathlib.Core.Bool.{Bool, true, false, not}
use mathlib.Core.List.{List, [], ◌∷◌}
use Prim.Native.Nat.{ℕ, zero, suc, ◌+◌, ◌-◌, ◌/◌, ◌%◌, ◌≤◌, ◌<◌}
use native.Mathlib.Omega.{arith}
use lib.Dec.{eqb, ltb}
use lib.ListN.{length, get_or, set, length-set}
use lib.Seq.{get_or-set_same, get_or-set_other, set_out}
use borrow.Author.Tests.{lt-ltb, ltb-true, eq-eqb}
use Rattle.base.specs.Iter.{iter, pick}
use Rattle.base.specs.Lists.{some}
use Rattle.base.proofs.Loop.{pick_yes, pick_no, eq_or_not, tested}
use Rattle.base.proofs.Tests.{le_or_lt, and_left, or_none, or_both}
use Rattle.base.proofs.Some.{some_none, some_all}
use Rattle.undo_log.specs.declared.Record.{Record}
use Rattle.undo_log.specs.declared.Cursor.{Cursor}
use Rattle.undo_log.specs.Log.{push_words}
use Rattle.plan.specs.Words.{word, vertices_of, edges_of, domain_of, lit_of, start_at, occurrence_at}
use Rattle.plan.specs.Check.{used_slot}
use Rattle.plan.specs.Proper.{ProperWords}
use Rattle.noting.specs.declared.note.Effect.{Effect}
use Rattle.noting.specs.Words.{edge_state_of, bound_at, fresh}
use Rattle.noting.specs.Note.{Noting, noting, effect, nothing, size_effect, effect_of, undo_record, bound_set, edge_set, applied, pushed_to, note_slot, level_pushed, place_in, known, note_at, note, is_of}
use Rattle.noting.specs.Undo.{records_of, restored, undone, kept, undo}
use Rattle.noting.specs.Replay.{edge_differs, vertex_differs, noted_differs}
use Rattle.noting.specs.Ready.{Effective, idle, edge, low, high}
use Rattle.noting.proofs.Effects.{effective, slot_vertex}
use Rattle.noting.proofs.Indexed.{at_of}
use Rattle.noting.proofs.Unnoted.{fresh_length, edge_word, low_word, high_word, low_lit_word, high_lit_word}
use Rattle.noting.proofs.Logged.{known_place}
use Rattle.noting.proofs.Differs.{same_edge, same_vertex}
use Rattle.noting.specs.Alike.{UsedPlace, Alike, Twins}

pub alike_trans : (ws a b c : List ℕ) → Alike ws a b → Alike ws b c → Alike ws a c
alike_trans ws a b c p q = record { long = p.long ∙ q.long; same = λ i h. p.same i h ∙ q.same i h }

pub alike_sym : (ws a b : List ℕ) → Alike ws a b → Alike ws b a
alike_sym ws a b p = record { long = sym p.long; same = λ i h. sym (p.same i h) }

-- a place that is held is an edge's, or one of a vertex's four
by_part : (ws : List ℕ) (P : ℕ → Type 0) → ((g : ℕ) → g < edges_of ws → P g) → ((from v : ℕ) → (from ≡ 128) ⊎ ((from ≡ 192) ⊎ ((from ≡ 256) ⊎ (from ≡ 320))) → v < vertices_of ws → v < 64 → P (from + v)) → (i : ℕ) → UsedPlace ws i → P i
by_part ws P f g i h = ⊎_elim (λ (a : i < edges_of ws). f i a) (λ (a : (128 ≤ i) × (i < 384) × ((i - 128) % 64 < vertices_of ws)). part a) h
  where
    put : (from : ℕ) → (from ≡ 128) ⊎ ((from ≡ 192) ⊎ ((from ≡ 256) ⊎ (from ≡ 320))) → from ≤ i → i < from + 64 → i - from < vertices_of ws → P i
    put from t a b c = let e : from + (i - from) ≡ i = omega arith in subst P e (g from (i - from) t c (omega arith))

    part : (128 ≤ i) × (i < 384) × ((i - 128) % 64 < vertices_of ws) → P i
    part (a, b, c) = ⊎_elim
        (λ (x : 256 ≤ i). ⊎_elim (λ (y : 320 ≤ i). put 320 (inr (inr (inr refl))) y (omega arith) (omega arith)) (λ (y : i < 320). put 256 (inr (inr (inl refl))) x y (omega arith)) (le_or_lt 320 i))
        (λ (x : i < 256). ⊎_elim (λ (y : 192 ≤ i). put 192 (inr (inl refl)) y x (omega arith)) (λ (y : i < 192). put 128 (inl refl) a y (omega arith)) (le_or_lt 192 i))
        (le_or_lt 256 i)

-- one test on both sides
two : {A : Type 0} (P : A → A → Type 0) (b : Bool) {x y u v : A} → P x u → P y v → P (pick b x y) (pick b u v)
unfolding pick
two P true p q = p
two P false p q = q

two_if : {A : Type 0} (P : A → A → Type 0) (b : Bool) {x y u v : A} → (b ≡ true → P x u) → P y v → P (pick b x y) (pick b u v)
unfolding pick
two_if P true p q = p refl
two_if P false p q = q

set_alike : (ws a b : List ℕ) (q x : ℕ) → Alike ws a b → Alike ws (set a q x) (set b q x)
set_alike ws a b q x p = record {
  long = length-set a q x ∙ p.long ∙ sym (length-set b q x);
  same = λ i h. ⊎_elim
      (λ (e : i ≡ q). ⊎_elim
      (λ (o : length a ≤ q). ap (λ (m : List ℕ). get_or m i 0) (set_out a q x o) ∙ p.same i h ∙ ap (λ (m : List ℕ). get_or m i 0) (sym (set_out b q x (omega (arith, p.long)))))
      (λ (o : q < length a). ap (λ (j : ℕ). get_or (set a q x) j 0) e ∙ get_or-set_same a q x 0 o ∙ sym (ap (λ (j : ℕ). get_or (set b q x) j 0) e ∙ get_or-set_same b q x 0 (omega (arith, p.long))))
      (le_or_lt (length a) q))
      (λ f. get_or-set_other a q i x 0 f ∙ p.same i h ∙ sym (get_or-set_other b q i x 0 f))
      (eq_or_not i q);
}

pub applied_alike : (ws a b : List ℕ) (e : Effect) (l : ℕ) → Alike ws a b → Alike ws (applied e l a) (applied e l b)
unfolding applied edge_set bound_set
applied_alike ws a b e l p =
    two (Alike ws) (eqb e.kind 1) (two (Alike ws) (ltb e.index 128) (set_alike ws a b e.index e.value p) p)
    (two (Alike ws) (eqb e.kind 2) (bound 128) (two (Alike ws) (eqb e.kind 3) (bound 192) p))
  where
    bound : (from : ℕ) → Alike ws (pick (ltb e.index 64) (set (set a (from + e.index) e.value) (from + 128 + e.index) l) a) (pick (ltb e.index 64) (set (set b (from + e.index) e.value) (from + 128 + e.index) l) b)
    bound from = two (Alike ws) (ltb e.index 64) (set_alike ws _ _ (from + 128 + e.index) l (set_alike ws a b (from + e.index) e.value p)) p

-- the records are taken back on both sides
undone_alike : (ws a b : List ℕ) (rs : List Record) → Alike ws a b → Alike ws (undone rs a) (undone rs b)
unfolding undone restored
undone_alike ws a b [] p = p
undone_alike ws a b (r ∷ rs) p = two (Alike ws) (eqb r.kind 0) p (undone_alike ws (restored r a) (restored r b) rs (applied_alike ws a b _ r.lit p))

pub undo_twins : (ws : List ℕ) (x y : Noting) → Twins ws x y → Twins ws (undo x) (undo y)
unfolding undo
undo_twins ws x y t =
    let e : records_of x.log x.cursor.used ≡ records_of y.log y.cursor.used = ap₂ (λ (m : List ℕ) (c : Cursor). records_of m c.used) t.log t.cursor in
    record {
      noted = subst (λ (rs : List Record). Alike ws (undone (records_of x.log x.cursor.used) x.noted) (undone rs y.noted)) e (undone_alike ws x.noted y.noted (records_of x.log x.cursor.used) t.noted);
      log = t.log;
      cursor = ap₂ (λ (rs : List Record) (n : ℕ). record { used = kept rs; standing = n }) e (ap (λ (c : Cursor). c.standing - 1) t.cursor);
    }

module _ (ws : List ℕ) (ends : List (List ℕ)) (p : ProperWords ws ends) where
  -- words that do not differ agree
  pub same_alike : (a b : List ℕ) → length a ≡ length b → noted_differs ws a b ≡ false → Alike ws a b
  unfolding noted_differs edge_state_of bound_at
  same_alike a b len e =
      let (d, f) = or_none (some (edge_differs a b) (edges_of ws)) (some (vertex_differs a b) (vertices_of ws)) e in
      record {
        long = len;
        same = by_part ws (λ i. get_or a i 0 ≡ get_or b i 0) (λ g h. let y = lt-ltb g 128 (omega (arith, p.fine.fits)) in sym (pick_yes _ _ y) ∙ same_edge a b g (some_none (edge_differs a b) (edges_of ws) d g h) ∙ pick_yes _ _ y)
            (λ from v t h s. let w = same_vertex a b v (some_none (vertex_differs a b) (vertices_of ws) f v h) in
            ⊎_elim (λ (x : from ≡ 128). take 128 from v s x 0 w.0) (λ x. ⊎_elim (λ (x : from ≡ 192). take 192 from v s x 0 w.1) (λ x. ⊎_elim (λ (x : from ≡ 256). take 256 from v s x 65535 w.2) (λ (x : from ≡ 320). take 320 from v s x 65535 w.3) x) x) t);
      }
    where
      take : (to from v : ℕ) → v < 64 → from ≡ to → (past : ℕ) → pick (ltb v 64) (word a (to + v)) past ≡ pick (ltb v 64) (word b (to + v)) past → get_or a (from + v) 0 ≡ get_or b (from + v) 0
      take to from v s x past z = let y = lt-ltb v 64 s in ap (λ (n : ℕ). get_or a (n + v) 0) x ∙ sym (pick_yes _ _ y) ∙ z ∙ pick_yes _ _ y ∙ ap (λ (n : ℕ). get_or b (n + v) 0) (sym x)

  -- fresh words agree whatever stood there
  pub fresh_alike : (a b : List ℕ) → length a ≡ 384 → length b ≡ 384 → Alike ws (fresh ws a) (fresh ws b)
  fresh_alike a b la lb = record {
    long = fresh_length ws a la ends p ∙ sym (fresh_length ws b lb ends p);
    same = by_part ws (λ i. get_or (fresh ws a) i 0 ≡ get_or (fresh ws b) i 0) (λ g h. edge_word ws a la ends p g h ∙ sym (edge_word ws b lb ends p g h))
        (λ from v t h s. ⊎_elim (λ (x : from ≡ 128). take 128 from v x (low_word ws a la ends p v h ∙ sym (low_word ws b lb ends p v h)))
        (λ x. ⊎_elim (λ (x : from ≡ 192). take 192 from v x (high_word ws a la ends p v h ∙ sym (high_word ws b lb ends p v h)))
        (λ x. ⊎_elim (λ (x : from ≡ 256). take 256 from v x (low_lit_word ws a la ends p v h ∙ sym (low_lit_word ws b lb ends p v h)))
        (λ (x : from ≡ 320). take 320 from v x (high_lit_word ws a la ends p v h ∙ sym (high_lit_word ws b lb ends p v h))) x) x) t);
  }
    where
      take : (to from v : ℕ) → from ≡ to → get_or (fresh ws a) (to + v) 0 ≡ get_or (fresh ws b) (to + v) 0 → get_or (fresh ws a) (from + v) 0 ≡ get_or (fresh ws b) (from + v) 0
      take to from v x z = ap (λ (n : ℕ). get_or (fresh ws a) (n + v) 0) x ∙ z ∙ ap (λ (n : ℕ). get_or (fresh ws b) (n + v) 0) (sym x)

  module _ (a b : List ℕ) (q : Alike ws a b) where
    bound_alike : (from past v : ℕ) → (128 ≤ from) × (from ≤ 320) → (from - 128) % 64 ≡ 0 → v < vertices_of ws → bound_at from past a v ≡ bound_at from past b v
    unfolding bound_at
    bound_alike from past v f g h = ap (λ (w : ℕ). pick (ltb v 64) w past) (q.same (from + v) (inr (omega (arith, f), omega (arith, f, p.fine.vertices), omega (arith, f, p.fine.vertices))))

    pub alike_same : noted_differs ws a b ≡ false
    unfolding noted_differs edge_differs vertex_differs edge_state_of
    alike_same = or_both
        (some_all (edge_differs a b) (edges_of ws) (λ g h. ap not (eq-eqb _ _ (ap (λ (w : ℕ). pick (ltb g 128) w 0) (q.same g (inl h))))))
        (some_all (vertex_differs a b) (vertices_of ws) (λ v h. or_both (ap not (eq-eqb _ _ (bound_alike 128 0 v (omega arith, omega arith) refl h)))
        (or_both (ap not (eq-eqb _ _ (bound_alike 192 0 v (omega arith, omega arith) refl h)))
        (or_both (ap not (eq-eqb _ _ (bound_alike 256 65535 v (omega arith, omega arith) refl h))) (ap not (eq-eqb _ _ (bound_alike 320 65535 v (omega arith, omega arith) refl h)))))))

    module _ (l s : ℕ) (u : used_slot ws s ≡ true) where
      effect_alike : effect_of ws a l s ≡ effect_of ws b l s
      unfolding effect_of size_effect
      effect_alike = tested (ltb s 2048)
          (λ t. let h = slot_vertex ws s u (ltb-true s 2048 t) in
          pick_yes _ _ t ∙ ap₂ (λ (x y : ℕ). pick (eqb (lit_of ws s) l)
          (pick (ltb x (domain_of ws (s / 32) (s % 32 + 1))) (effect 2 (s / 32) (domain_of ws (s / 32) (s % 32 + 1))) nothing)
          (pick (ltb (domain_of ws (s / 32) (s % 32)) y) (effect 3 (s / 32) (domain_of ws (s / 32) (s % 32))) nothing))
          (bound_alike 128 0 (s / 32) (omega arith, omega arith) refl h) (bound_alike 192 0 (s / 32) (omega arith, omega arith) refl h) ∙ sym (pick_yes _ _ t))
          (λ t. pick_no _ _ t ∙ sym (pick_no _ _ t))

      record_alike : (e : Effect) → Effective ws a l s e → undo_record a e ≡ undo_record b e
      unfolding undo_record pick
      record_alike e idle = refl
      record_alike e (edge c d) = refl
      record_alike e (low c d) = ap₂ (λ (x y : ℕ). record { kind = 2; index = s / 32; bound = x; lit = y % 65536 }) (bound_alike 128 0 (s / 32) (omega arith, omega arith) refl (slot_vertex ws s u c)) (bound_alike 256 65535 (s / 32) (omega arith, omega arith) refl (slot_vertex ws s u c))
      record_alike e (high c d) = ap₂ (λ (x y : ℕ). record { kind = 3; index = s / 32; bound = x; lit = y % 65536 }) (bound_alike 192 0 (s / 32) (omega arith, omega arith) refl (slot_vertex ws s u c)) (bound_alike 320 65535 (s / 32) (omega arith, omega arith) refl (slot_vertex ws s u c))

  slot_twins : (l s : ℕ) (x y : Noting) → used_slot ws s ≡ true → Twins ws x y → Twins ws (note_slot ws l s x) (note_slot ws l s y)
  unfolding note_slot
  slot_twins l s x y u t =
      let e = effect_of ws x.noted l s in
      let r = undo_record x.noted e in
      let f : effect_of ws y.noted l s ≡ e = sym (effect_alike x.noted y.noted t.noted l s u) in
      let g : undo_record y.noted (effect_of ws y.noted l s) ≡ r = ap (undo_record y.noted) f ∙ sym (record_alike x.noted y.noted t.noted l s u e (effective ws x.noted l s)) in
      subst (Twins ws (note_slot ws l s x)) (sym (ap₂ (λ (d : Effect) (q : Record). pick (eqb d.kind 0) y (noting (applied d l y.noted) (push_words y.log y.cursor q) (pushed_to y.log y.cursor))) f g))
      (two (Twins ws) (eqb e.kind 0) t (record {
        noted = applied_alike ws x.noted y.noted e l t.noted;
        log = ap₂ (λ (m : List ℕ) (c : Cursor). push_words m c r) t.log t.cursor;
        cursor = ap₂ pushed_to t.log t.cursor;
      }))

  loop_twins : (l : ℕ) (at : ℕ → ℕ) (n : ℕ) (x y : Noting) → ((i : ℕ) → i < n → used_slot ws (at i) ≡ true) → Twins ws x y → Twins ws (iter (λ i z. note_slot ws l (at i) z) n x) (iter (λ i z. note_slot ws l (at i) z) n y)
  unfolding iter
  loop_twins l at zero x y u t = t
  loop_twins l at (suc n) x y u t = slot_twins l (at n) _ _ (u n (omega arith)) (loop_twins l at n x y (λ i h. u i (omega arith)) t)

  level_twins : (l : ℕ) (x y : Noting) → Twins ws x y → Twins ws (level_pushed l x) (level_pushed l y)
  unfolding level_pushed
  level_twins l x y t = record {
    noted = t.noted;
    log = ap₂ (λ (m : List ℕ) (c : Cursor). (level_pushed l (noting [] m c)).log) t.log t.cursor;
    cursor = ap₂ (λ (m : List ℕ) (c : Cursor). (level_pushed l (noting [] m c)).cursor) t.log t.cursor;
  }

  pub note_twins : (l : ℕ) (x y : Noting) → Twins ws x y → Twins ws (note ws l x) (note ws l y)
  unfolding note note_at is_of
  note_twins l x y t =
      two_if (Twins ws) (known ws (l / 2))
      (λ k. let (h, _) = known_place ws ends p (l / 2) k in
      let j = place_in ws (l / 2) in
      loop_twins l (λ i. occurrence_at ws (start_at ws j + i)) (start_at ws (j + 1) - start_at ws j) _ _ (λ i b. and_left _ _ (at_of ws ends p j h i b)) (level_twins l x y t))
      (level_twins l x y t)
