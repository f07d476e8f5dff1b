-- No literal is handed on twice by a call, and all are the plan's: a list of as many entries as the plan has literals, both signs, holds them.
use Prim.Native.Nat.{ℕ, zero, suc, pred, ◌+◌, ◌*◌, ◌/◌, ◌<◌, ◌≤◌, zero-le}
use native.Mathlib.Omega.{arith}
use native.Mathlib.Nat.{le_refl, le_trans, not-suc-le-zero}
use mathlib.Core.Path.{◌≡◌, refl, sym, ◌∙◌, ap, subst}
use mathlib.Core.Logic.{◌⊎◌, inl, inr, ⊎_elim}
use mathlib.Core.Bool.{Bool, true, false, true≢false, false≢true}
use mathlib.Core.List.Memᴰ
use mathlib.Core.List.{List, [], ◌∷◌, ◌++◌, map}
use lib.Dec.{eqb, ltb}
use lib.ListN.{length}
use borrow.Author.Tests.{eqb-true, ltb-true, ltb-false}
use Rattle.base.specs.Iter.{pick}
use Rattle.base.specs.Lists.{some}
use Rattle.base.proofs.Loop.{pick_ind}
use Rattle.base.proofs.Tests.{or_cases}
use Rattle.graph.proofs.Mark.{lt_cases}
use Rattle.division.specs.Plan.{Plan, Proper}
use Rattle.division.specs.Noting.{note_all, In, Consistent}
use Rattle.division.specs.Runs.{analysis}
use Rattle.division.proofs.Noting.{noted_all}
use Rattle.division.proofs.Rules.{proposed_explained}
use Rattle.division.proofs.Whole.{each_found, reason_there}
use Rattle.calls.specs.Table.{most, knows, variables, rising, bad_table, enter}
use Rattle.calls.specs.Look.{Looked, offers, hand_on, stop, clashes, offered, looked}
use Rattle.calls.specs.Calls.{World, Call, Outcome, refuse, noting, settled_by, tell, Going, join_by, last_by, finish_by, entry, run}
use Rattle.calls.specs.Claim.{answered}
use Rattle.calls.specs.Marks.{Marked}
use Rattle.calls.proofs.View.{Saw, saw, saw_stop, saw_conflict, saw_false, saw_fine, Steps, over, more, ends, halts, Did, away, added, agreed, clashed, took, asked, began, began_last, began_clash, did}
use Rattle.calls.proofs.Looks.{halted, hand_in, offer_in}
use Rattle.calls.proofs.Stands.{add_consistent, or_left, fine_on, clash_on, not_halted, run_consistent}
use Rattle.calls.proofs.Fetchable.{good, is_known}
use Rattle.calls.proofs.Rising.{swept_in}
use Rattle.calls.proofs.Marks.{unmarked, marked_then, marked_set, enter_same, enter_long, hand_marked, looked_marked}
use Rattle.calls.specs.Order.{Distinct}

distinct_append : (h i : List ℕ) → Distinct h → Distinct i → ((x : ℕ) → In h x → In i x → ⊥) → Distinct (h ++ i)
distinct_append [] i a b f = b
distinct_append (x ∷ h) i (Distinct.with n a) b f =
    Distinct.with (λ m. ⊎_elim (λ z. n z) (λ z. f x (Memᴰ.head refl) z) (Memᴰ.append_cases h m)) (distinct_append h i a b (λ y p q. f y (Memᴰ.tail p) q))

-- a member taken out
without : (y : ℕ) (ys : List ℕ) → In ys y → (zs : List ℕ) × (length ys ≡ suc (length zs)) × ((x : ℕ) → In ys x → (x ≡ y) ⊎ In zs x)
without y [] m = absurd (Memᴰ.not-nil m)
without y (z ∷ ys) m =
    ⊎_elim (λ e. (ys, refl, λ x n. ⊎_elim (λ q. inl (q ∙ sym e)) (λ q. inr q) (Memᴰ.cases_cons n)))
    (λ k. let (zs, e, f) = without y ys k in
    (z ∷ zs, ap suc e, λ x n. ⊎_elim (λ q. inr (Memᴰ.head q)) (λ q. ⊎_elim (λ i. inl i) (λ i. inr (Memᴰ.tail i)) (f x q)) (Memᴰ.cases_cons n)))
    (Memᴰ.cases_cons m)

pub distinct_le : (xs ys : List ℕ) → Distinct xs → ((x : ℕ) → In xs x → In ys x) → length xs ≤ length ys
distinct_le [] ys a f = zero-le
distinct_le (x ∷ xs) ys (Distinct.with n a) f =
    let (zs, e, g) = without x ys (f x (Memᴰ.head refl)) in
    let h : length xs ≤ length zs = distinct_le xs zs a (λ z m. ⊎_elim (λ q. absurd (n (subst (In xs) q m))) (λ q. q) (g z (f z (Memᴰ.tail m)))) in
    omega (arith, e)

hand_distinct : (t ps : List ℕ) → ((p : ℕ) → In ps p → p / 2 < length t) → Distinct (hand_on t ps)
unfolding hand_on
hand_distinct t [] f = Distinct.alone
hand_distinct t (p ∷ ps) f =
    pick_ind Distinct _ _ _
    (λ _. Distinct.with (λ m. true≢false (sym ((hand_marked (enter t p) ps).shown p m (subst (λ z. p / 2 < z) (sym (enter_long t p)) (f p (Memᴰ.head refl)))).0 ∙ marked_set (enter t p) p (enter_same t p (f p (Memᴰ.head refl)))))
    (hand_distinct (enter t p) ps (λ q m. subst (λ z. q / 2 < z) (sym (enter_long t p)) (f q (Memᴰ.tail m)))))
    (λ _. hand_distinct t ps (λ q m. f q (Memᴰ.tail m)))

some_find : (t : ℕ → Bool) (n : ℕ) → some t n ≡ true → (i : ℕ) × (i < n) × (t i ≡ true)
unfolding some
some_find t zero e = absurd (false≢true e)
some_find t (suc n) e = ⊎_elim (λ q. let (i, h, x) = some_find t n q in (i, omega arith, x)) (λ q. (n, le_refl (suc n), q)) (or_cases (some t n) (t n) e)

most_le : (f : ℕ → ℕ) (n i : ℕ) → i < n → f i ≤ most f n
unfolding most
most_le f zero i h = absurd (not-suc-le-zero h)
most_le f (suc n) i h =
    pick_ind (λ z. f i ≤ z) (ltb (most f n) (f n)) (f n) (most f n)
    (λ t. ⊎_elim (λ q. omega (arith, most_le f n i q, ltb-true (most f n) (f n) t)) (λ (q : i ≡ n). subst (λ z. f i ≤ f z) q (le_refl (f i))) (lt_cases i n (omega arith)))
    (λ t. ⊎_elim (λ q. most_le f n i q) (λ (q : i ≡ n). subst (λ z. f z ≤ most f n) (sym q) (ltb-false (most f n) (f n) t)) (lt_cases i n (omega arith)))

pub known_below : (d : Plan) (l : ℕ) → knows d l ≡ true → l / 2 < variables d
unfolding knows variables
known_below d l e =
    ⊎_elim (λ x. let (g, h, y) = some_find _ _ x in edge g h (eqb-true _ _ y))
    (λ x. let (v, h, y) = some_find _ _ x in let (j, i, z) = some_find _ _ y in domain v j h i (eqb-true _ _ z))
    (or_cases (some (λ g. eqb (l / 2) (d.edge_lit g / 2)) d.edges) _ e)
  where
    a : ℕ
    a = most (λ g. suc (d.edge_lit g / 2)) d.edges

    b : ℕ
    b = most (λ v. most (λ j. suc (d.dom_lit v j / 2)) (pred (d.domain_len v))) d.vertices

    edge : (g : ℕ) → g < d.edges → l / 2 ≡ d.edge_lit g / 2 → l / 2 < pick (ltb a b) b a
    edge g h q =
        let m = most_le (λ i. suc (d.edge_lit i / 2)) d.edges g h in
        pick_ind (λ z. l / 2 < z) (ltb a b) b a (λ t. omega (arith, ltb-true a b t, m, q)) (λ t. subst (λ z. suc z ≤ a) (sym q) m)

    domain : (v j : ℕ) → v < d.vertices → j < pred (d.domain_len v) → l / 2 ≡ d.dom_lit v j / 2 → l / 2 < pick (ltb a b) b a
    domain v j h i q =
        let m = most_le (λ u. most (λ x. suc (d.dom_lit u x / 2)) (pred (d.domain_len u))) d.vertices v h in
        let n = most_le (λ x. suc (d.dom_lit v x / 2)) (pred (d.domain_len v)) j i in
        let w : l / 2 < b = subst (λ z. suc z ≤ b) (sym q) (le_trans n m) in
        pick_ind (λ z. l / 2 < z) (ltb a b) b a (λ t. w) (λ t. le_trans w (ltb-false a b t))

long_enough : (d : Plan) (t : List ℕ) → bad_table d t ≡ false → variables d ≤ length t
unfolding bad_table
long_enough d t e = ltb-false (length t) (variables d) (or_left _ _ e)

-- handed on from table t, table u left
record Handed (d : Plan) (t h u : List ℕ) : Type 0 where
  marked : Marked t h u
  known : (l : ℕ) → In h l → knows d l ≡ true
  once : Distinct h

none_handed : (d : Plan) (t : List ℕ) → Handed d t [] t
none_handed d t = record { marked = unmarked t; known = λ l m. absurd (Memᴰ.not-nil m); once = Distinct.alone }

module _ (d : Plan) (k : Proper d) where
  proposed_known : (ls : List ℕ) → Consistent ls → (l : ℕ) → In (map (λ p. p.lit) (analysis d ls).props) l → knows d l ≡ true
  proposed_known ls c l m =
      let (r, e) = reason_there l (analysis d ls).props m in
      is_known d k (note_all d ls) l r (proposed_explained d (note_all d ls) k (noted_all d ls c).bounded l r (each_found l r (analysis d ls).props (good d k ls c).props e))

  saw_handed : (ls t : List ℕ) → Consistent ls → variables d ≤ length t → {o : Looked} → Saw d ls t o → Marked t o.handed o.table → Handed d t o.handed o.table
  unfolding stop clashes offered
  saw_handed ls t c h (saw_stop n) m = none_handed d t
  saw_handed ls t c h (saw_conflict x e) m = none_handed d t
  saw_handed ls t c h (saw_false p ps e cur) m = none_handed d t
  saw_handed ls t c h (saw_fine e) m = record {
    marked = m;
    known = λ l n. proposed_known ls c l (offer_in (analysis d ls) l (hand_in l t (offers (analysis d ls)) n));
    once = hand_distinct t (offers (analysis d ls)) (λ p n. le_trans (known_below d p (proposed_known ls c p (offer_in (analysis d ls) p n))) h);
  }

  looked_handed : (ls t : List ℕ) → Consistent ls → variables d ≤ length t → (o : Looked) → o ≡ looked d ls t → Handed d t o.handed o.table
  looked_handed ls t c h o e = saw_handed ls t c h (subst (Saw d ls t) (sym e) (saw d ls t)) (looked_marked d ls t o e)

  handed_then : (t h u i v : List ℕ) → variables d ≤ length t → Handed d t h u → Handed d u i v → Handed d t (h ++ i) v
  handed_then t h u i v z a b = record {
    marked = marked_then t h u i v a.marked b.marked;
    known = λ l m. ⊎_elim (λ n. a.known l n) (λ n. b.known l n) (Memᴰ.append_cases h m);
    once = distinct_append h i a.once b.once (λ x p q. cross x p q);
  }
    where
      cross : (x : ℕ) → In h x → In i x → ⊥
      cross x p q =
          let w : x / 2 < length t = le_trans (known_below d x (a.known x p)) z in
          true≢false (sym (b.marked.shown x q (subst (λ n. x / 2 < n) (sym a.marked.long) w)).0 ∙ marked_set u x (a.marked.shown x p w).1)

  steps_handed : (t : List ℕ) → variables d ≤ length t → {a b : Going} {ls : List ℕ} → Steps d a ls b → halted b.judgement ≡ false → Consistent a.world.standing →
      Handed d t a.handed a.table → Handed d t b.handed b.table
  unfolding join_by noting
  steps_handed t z (over e) h c m = m
  steps_handed t z {a} (more {l = l} o e f q s) h c m =
      let c2 = add_consistent a.world l f c in
      steps_handed t z s h c2 (handed_then t a.handed a.table o.handed o.table z m (looked_handed _ a.table c2 (subst (λ n. variables d ≤ n) (sym m.marked.long) z) o e))
  steps_handed t z {a} (ends {l = l} o e f q) h c m =
      let c2 = add_consistent a.world l f c in
      handed_then t a.handed a.table o.handed o.table z m (looked_handed _ a.table c2 (subst (λ n. variables d ≤ n) (sym m.marked.long) z) o e)
  steps_handed t z (halts n e) h c m = absurd (not_halted e h)

  did_handed : (w : World) {c : Call} {o : Outcome} → Did d w c o → Consistent w.standing → (t : List ℕ) × (u : List ℕ) × Handed d t o.handed u
  unfolding refuse settled_by tell last_by finish_by entry
  did_handed w (away c n) g = ([], [], none_handed d [])
  did_handed w (added room t l p e f kn) g = ([], [], none_handed d [])
  did_handed w (agreed room t l p pf o e f q bt kn) g = (t, o.table, looked_handed _ t (add_consistent w l f g) (long_enough d t bt) o e)
  did_handed w (clashed room t l p pf o e f q bt kn) g = (t, o.table, looked_handed _ t (add_consistent w l f g) (long_enough d t bt) o e)
  did_handed w (took room l x xs e) g = ([], [], none_handed d [])
  did_handed w (asked room q) g = ([], [], none_handed d [])
  did_handed w (began room t a s j v bt) g = (t, a.table, steps_handed t (long_enough d t bt) s (fine_on j) g (none_handed d t))
  did_handed w (began_last room t a s j c v bt) g = (t, a.table, steps_handed t (long_enough d t bt) s (fine_on j) g (none_handed d t))
  did_handed w (began_clash room t a s j bt) g = (t, a.table, steps_handed t (long_enough d t bt) s (clash_on j) g (none_handed d t))

  -- whatever was called before, a list as long as the plan's distinct literals, both signs, holds what a call hands on
  pub handed_fits : (before : List Call) (c : Call) → Distinct (answered d before c).handed × (length (answered d before c).handed ≤ length (rising (knows d) 0 (variables d * 2)))
  handed_fits before c =
      let (t, u, x) = did_handed (run d before) (did d (run d before) c) (run_consistent d before) in
      (x.once, distinct_le _ _ x.once (λ l m. swept_in (knows d) 0 (variables d * 2) l zero-le (below l (known_below d l (x.known l m))) (x.known l m)))
    where
      below : (l : ℕ) → l / 2 < variables d → l < 0 + variables d * 2
      below l h = omega arith
