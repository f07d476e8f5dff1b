-- The labels of one walk of the edges are the regions.
use Prim.Native.Nat.{ℕ, suc, ◌<◌, ◌≤◌}
use native.Mathlib.Nat.{not-suc-le-zero, le_of_eq, le_antisymm}
use native.Mathlib.Omega.{arith}
use mathlib.Core.Path.{◌≡◌, refl, sym, ◌∙◌, ap, subst}
use mathlib.Core.Logic.{⊎_elim}
use mathlib.Core.Bool.{true, true≢false}
use mathlib.Core.List.{List}
use lib.ListN.{length}
use borrow.Author.Tests.{eqb-true, eqb-false, ltb-true, ltb-false}
use Rattle.base.specs.Iter.{iter}
use Rattle.base.proofs.Loop.{iter_ind, iter_done, pick_ind, eq_or_not, pick_yes, pick_no}
use Rattle.graph.specs.Search.{Graph, is_open, end_a, end_b}
use Rattle.graph.specs.Bounds.{Fine}
use Rattle.graph.specs.Paths.{Chain, here, there, Joined}
use Rattle.regions.specs.Labels.{label_of, renamed, merged, bridged, alone, labelled, Labelled}
use Rattle.graph.proofs.Lists.{mapped_at, mapped_length}
use Rattle.graph.proofs.Joined.{joined_refl, joined_trans, joined_sym, joined_edge}

renamed_yes : (lo hi x : ℕ) → x ≡ hi → renamed lo hi x ≡ lo
unfolding renamed
renamed_yes lo hi x e = pick_yes _ _ (borrow.Author.Tests.eq-eqb x hi e)

renamed_no : (lo hi x : ℕ) → (x ≡ hi → ⊥) → renamed lo hi x ≡ x
unfolding renamed
renamed_no lo hi x e = pick_no _ _ (borrow.Author.Tests.ne_eqb x hi e)

module _ (e : Graph) (edges vertices : ℕ) where
  -- what holds after k edges
  record Part (k : ℕ) (l : List ℕ) : Type 0 where
    room : vertices ≤ length l
    same : (p q : ℕ) → p < vertices → q < vertices → label_of l p ≡ label_of l q → Joined e edges p q
    below : (q : ℕ) → q < vertices → label_of l q ≤ q
    own : (q : ℕ) → q < vertices → label_of l (label_of l q) ≡ label_of l q
    passed : (g : ℕ) → g < k → is_open e g ≡ true → label_of l (end_a e g) ≡ label_of l (end_b e g)

  alone_part : (l : List ℕ) → vertices ≤ length l → Part 0 (alone vertices l)
  alone_part l h =
      let at : (q : ℕ) → q < vertices → label_of (alone vertices l) q ≡ q = λ q k. mapped_at (λ i _. i) l q vertices h k in
      record {
        room = subst (λ n. vertices ≤ n) (sym (mapped_length (λ i _. i) l vertices)) h;
        same = λ p q hp hq x. subst (Joined e edges p) (sym (at p hp) ∙ x ∙ at q hq) (joined_refl p);
        below = λ q k. le_of_eq (at q k);
        own = λ q k. ap (label_of (alone vertices l)) (at q k);
        passed = λ g k. absurd (not-suc-le-zero k);
      }

  module _ (f : Fine vertices edges e.ends) where
    -- the regions of a and b, which are joined, become one
    module _ (k : ℕ) (l : List ℕ) (w : Part k l) (kg : k ≤ edges) (a b : ℕ) (ha : a < vertices) (hb : b < vertices) (lt : label_of l a < label_of l b) (j : Joined e edges a b) where
      abbrev m : List ℕ
      m = merged vertices (label_of l a) (label_of l b) l

      at : (q : ℕ) → q < vertices → label_of m q ≡ renamed (label_of l a) (label_of l b) (label_of l q)
      at q h = mapped_at (λ _ x. renamed (label_of l a) (label_of l b) x) l q vertices w.room h

      -- the new label, where the old one was the greater of the two and where not
      yes : (q : ℕ) → q < vertices → label_of l q ≡ label_of l b → label_of m q ≡ label_of l a
      yes q h x = at q h ∙ renamed_yes _ _ _ x

      no : (q : ℕ) → q < vertices → (label_of l q ≡ label_of l b → ⊥) → label_of m q ≡ label_of l q
      no q h x = at q h ∙ renamed_no _ _ _ x

      m_same : (p q : ℕ) → p < vertices → q < vertices → label_of m p ≡ label_of m q → Joined e edges p q
      m_same p q hp hq x =
          ⊎_elim (λ (y : label_of l p ≡ label_of l b). ⊎_elim (λ (z : label_of l q ≡ label_of l b). w.same p q hp hq (y ∙ sym z))
          (λ z. cross p q hp hq y (sym (yes p hp y) ∙ x ∙ no q hq z)) (eq_or_not _ _))
          (λ y. ⊎_elim (λ (z : label_of l q ≡ label_of l b). joined_sym (cross q p hq hp z (sym (yes q hq z) ∙ sym x ∙ no p hp y)))
          (λ z. w.same p q hp hq (sym (no p hp y) ∙ x ∙ no q hq z)) (eq_or_not _ _)) (eq_or_not _ _)
        where
          cross : (p q : ℕ) → p < vertices → q < vertices → label_of l p ≡ label_of l b → label_of l a ≡ label_of l q → Joined e edges p q
          cross p q hp hq y z = joined_trans (w.same p b hp hb y) (joined_trans (joined_sym j) (w.same a q ha hq z))

      m_below : (q : ℕ) → q < vertices → label_of m q ≤ q
      m_below q h =
          ⊎_elim (λ (y : label_of l q ≡ label_of l b). omega (arith, yes q h y, w.below q h)) (λ y. omega (arith, no q h y, w.below q h)) (eq_or_not (label_of l q) (label_of l b))

      m_own : (q : ℕ) → q < vertices → label_of m (label_of m q) ≡ label_of m q
      m_own q h =
          ⊎_elim (λ (y : label_of l q ≡ label_of l b). subst (λ x. label_of m x ≡ x) (sym (yes q h y)) (root a ha (λ (z : label_of l a ≡ label_of l b). omega arith)))
          (λ y. subst (λ x. label_of m x ≡ x) (sym (no q h y)) (root q h y)) (eq_or_not (label_of l q) (label_of l b))
        where
          -- a label that stays is its own
          root : (q : ℕ) → q < vertices → (label_of l q ≡ label_of l b → ⊥) → label_of m (label_of l q) ≡ label_of l q
          root q h y = no (label_of l q) (omega (arith, w.below q h)) (λ (z : label_of l (label_of l q) ≡ label_of l b). y (sym (w.own q h) ∙ z)) ∙ w.own q h

      m_as : (p q : ℕ) → p < vertices → q < vertices → label_of l p ≡ label_of l q → label_of m p ≡ label_of m q
      m_as p q hp hq x = at p hp ∙ ap (renamed (label_of l a) (label_of l b)) x ∙ sym (at q hq)

      merged_part : (Part k m) × (label_of m a ≡ label_of m b)
      merged_part = (
        record {
          room = subst (λ n. vertices ≤ n) (sym (mapped_length (λ _ x. renamed (label_of l a) (label_of l b) x) l vertices)) w.room;
          same = m_same;
          below = m_below;
          own = m_own;
          passed = λ g h o. m_as _ _ (f.within g (omega arith)).a (f.within g (omega arith)).b (w.passed g h o);
        },
        no a ha (λ (z : label_of l a ≡ label_of l b). omega arith) ∙ sym (yes b hb refl),
      )

    -- one edge more
    next : (k : ℕ) (l : List ℕ) → Part k l → (is_open e k ≡ true → label_of l (end_a e k) ≡ label_of l (end_b e k)) → Part (suc k) l
    next k l w x = record {
      room = w.room;
      same = w.same;
      below = w.below;
      own = w.own;
      passed = λ g h o. ⊎_elim (λ (y : g ≡ k). subst (λ g. label_of l (end_a e g) ≡ label_of l (end_b e g)) (sym y) (x (subst (λ g. is_open e g ≡ true) y o)))
          (λ (y : g ≡ k → ⊥). w.passed g (omega arith) o) (eq_or_not g k);
    }

    bridged_part : (k : ℕ) (l : List ℕ) → k < edges → Part k l → Part (suc k) (bridged e vertices k l)
    unfolding bridged
    bridged_part k l h w =
        let wa = (f.within k h).a in
        let wb = (f.within k h).b in
        pick_ind (Part (suc k)) _ _ _
        (λ o. pick_ind (Part (suc k)) _ _ _
        (λ t. let r = merged_part k l w (omega arith) (end_a e k) (end_b e k) wa wb (ltb-true _ _ t) (joined_edge e edges k h o) in next k _ r.0 (λ _. r.1))
        (λ t. pick_ind (Part (suc k)) _ _ _
        (λ u. let r = merged_part k l w (omega arith) (end_b e k) (end_a e k) wb wa (ltb-true _ _ u) (joined_sym (joined_edge e edges k h o)) in next k _ r.0 (λ _. sym r.1))
        (λ u. next k l w (λ _. le_antisymm (ltb-false _ _ u) (ltb-false _ _ t)))))
        (λ o. next k l w (λ x. absurd (true≢false (sym x ∙ o))))

    pub labelled_regions : (l : List ℕ) → vertices ≤ length l → Labelled e edges vertices (labelled e edges vertices l)
    unfolding labelled
    labelled_regions l h =
        let m = iter (bridged e vertices) edges (alone vertices l) in
        let w : Part edges m = iter_ind Part (bridged e vertices) (alone vertices l) edges (alone_part l h) (λ k x lt p. bridged_part k x lt p) in
        let j : (p q : ℕ) → p < vertices → q < vertices → Joined e edges p q → label_of m p ≡ label_of m q = λ p q hp hq c. chain m w p c.1 in
        record {
          same = w.same;
          joined = j;
          below = w.below;
          own = w.own;
          lowest = λ p q hp hq c. omega (arith, j p q hp hq c, w.below p hp);
        }
      where
        chain : (m : List ℕ) (w : Part edges m) (p : ℕ) {l : List ℕ} {q : ℕ} → Chain e edges p l q → label_of m p ≡ label_of m q
        chain m w p here = refl
        chain m w p (there g c l) =
            chain m w p c ∙ ⊎_elim (λ x. sym (ap (label_of m) x.0) ∙ w.passed g l.known l.passed ∙ ap (label_of m) x.1)
            (λ x. sym (ap (label_of m) x.0) ∙ sym (w.passed g l.known l.passed) ∙ ap (label_of m) x.1) l.ends

-- the loop over the edges is left
pub labelled_done : (e : Graph) (edges vertices k : ℕ) (l m x : List ℕ) → m ≡ alone vertices l → x ≡ iter (bridged e vertices) k m → k ≤ edges → edges ≤ k → x ≡ labelled e edges vertices l
unfolding labelled
labelled_done e edges vertices k l m x s h i j = iter_done _ _ _ _ _ h i j ∙ ap (iter (bridged e vertices) edges) s
