-- The search keeps what `Base` says, and leaves no edge of a vertex it has passed unseen.
use Prim.Native.Nat.{ℕ, suc, ◌<◌, ◌≤◌, zero-le}
use native.Mathlib.Nat.{lt_of_lt_of_le, le_refl, eq-or-lt_of_le, le_of_suc-le-suc, not-suc-le-zero}
use native.Mathlib.Omega.{arith}
use mathlib.Core.Path.{◌≡◌, refl, sym, ◌∙◌, subst}
use mathlib.Core.Logic.{◌⊎◌, inl, inr, ⊎_elim}
use mathlib.Core.Bool.{false, true≢false}
use borrow.Author.Tests.{eqb-true, eqb-false, ltb-true, ltb-false}
use Rattle.base.specs.Iter.{pick}
use Rattle.graph.specs.Search.{Scan, at, reached_yet, Graph, end_a, end_b, marked, reached, visited, walked, popped, searched_on}
use Rattle.graph.specs.Bounds.{Ok, Fine, Fresh}
use Rattle.graph.specs.Paths.{Leads}
use Rattle.base.proofs.Loop.{pick_ind, iter_ind}
use Rattle.graph.proofs.Keep.{begun_ok, fresh_ok}
use Rattle.graph.proofs.Mark.{lt_cases, up, up_new, at_new, seen_cases, count_marked, seen_new}
use Rattle.graph.proofs.Base.{Hit, Base, Ext, hit_ext, marked_base, marked_ext, leads_below}

suc_cases : (i c : ℕ) → i < suc c → (i < c) ⊎ (i ≡ c)
suc_cases i c h = ⊎_elim (λ e. inr e) (λ l. inl l) (eq-or-lt_of_le (le_of_suc-le-suc h))

-- an edge, seen from a vertex: it leads nowhere, or to one vertex, which is reached
visited_view : (e : Graph) (edges p g : ℕ) (s : Scan) (P : Scan → Type 0) → g < edges → (((q : ℕ) → Leads e edges g p q → ⊥) → P s) →
    ((r : ℕ) → Leads e edges g p r → ((q : ℕ) → Leads e edges g p q → q ≡ r) → P (reached p g r s)) → P (visited e p g s)
unfolding visited
visited_view e edges p g s P known none some =
    pick_ind P _ _ _
    (λ op. pick_ind P _ _ _
    (λ a. some (end_b e g) (record { known = known; passed = op; ends = inl (eqb-true _ _ a, refl) })
    (λ q l. ⊎_elim (λ w. sym w.1) (λ w. sym w.1 ∙ eqb-true _ _ a ∙ sym w.0) l.ends))
    (λ na. pick_ind P _ _ _
    (λ b. some (end_a e g) (record { known = known; passed = op; ends = inr (eqb-true _ _ b, refl) })
    (λ q l. ⊎_elim (λ w. absurd (eqb-false _ _ na w.0)) (λ w. sym w.1) l.ends))
    (λ nb. none (λ q l. ⊎_elim (λ w. eqb-false _ _ na w.0) (λ w. eqb-false _ _ nb w.0) l.ends))))
    (λ cl. none (λ q l. true≢false (sym l.passed ∙ cl)))

leads_as : {e : Graph} {edges g g' p p' q : ℕ} → g ≡ g' → p ≡ p' → Leads e edges g p q → Leads e edges g' p' q
leads_as x y l = rw (x, y) at l

hit_as : {lev : ℕ → ℕ} {s : Scan} {q r n : ℕ} → q ≡ r → Hit lev s r n → Hit lev s q n
hit_as x h = rw x h

-- each edge below k that leads on from place i leads to a vertex that was reached, one level further at most
abbrev pub Done : Graph → ℕ → (ℕ → ℕ) → Scan → ℕ → ℕ → Type 0
Done e edges lev s i k = (g q : ℕ) → g < k → Leads e edges g (at s i) q → Hit lev s q (suc (lev i))

done_ext : {e : Graph} {edges : ℕ} {lev lev' : ℕ → ℕ} {s s' : Scan} (i k : ℕ) → Ext lev s lev' s' → i < s.count → Done e edges lev s i k → Done e edges lev' s' i k
done_ext i k x ki d g q gk l =
    rw (x.level i ki) (hit_ext x (d g q gk (rw (x.same i ki) at l)))

pub record Walk (e : Graph) (edges vertices start h p k : ℕ) (s : Scan) : Type 0 where
  pub lev : ℕ → ℕ
  pub base : Base e edges vertices start lev s
  pub here : h < s.count
  pub vertex : at s h ≡ p
  pub near : (i : ℕ) → i < s.count → lev i ≤ suc (lev h)
  pub past : (i : ℕ) → i < h → Done e edges lev s i edges
  pub present : Done e edges lev s h k

pub record Pop (e : Graph) (edges vertices start h : ℕ) (s : Scan) : Type 0 where
  pub lev : ℕ → ℕ
  pub base : Base e edges vertices start lev s
  pub near : h < s.count → (i : ℕ) → i < s.count → lev i ≤ suc (lev h)
  pub past : (i : ℕ) → i < h → i < s.count → Done e edges lev s i edges

module _ (e : Graph) (edges vertices start : ℕ) (f : Fine vertices edges e.ends) where
  -- one edge more, which leads to a vertex that was reached, or nowhere
  walk_same : (h p k : ℕ) (s : Scan) (w : Walk e edges vertices start h p k s) → ((q : ℕ) → Leads e edges k p q → Hit w.lev s q (suc (w.lev h))) →
      Walk e edges vertices start h p (suc k) s
  walk_same h p k s w hit = record {
    lev = w.lev;
    base = w.base;
    here = w.here;
    vertex = w.vertex;
    near = w.near;
    past = w.past;
    present = λ g q gk l.
        ⊎_elim (λ lt. w.present g q lt l) (λ x. hit q (leads_as x w.vertex l)) (suc_cases g k gk);
  }

  walk_fresh : (h k r : ℕ) (s : Scan) (w : Walk e edges vertices start h (at s h) k s) → Leads e edges k (at s h) r → ((q : ℕ) → Leads e edges k (at s h) q → q ≡ r) →
      reached_yet s r ≡ false → Walk e edges vertices start h (at s h) (suc k) (marked (at s h) k r s)
  walk_fresh h k r s w l only fresh =
      let lev = w.lev in
      let c = s.count in
      let x : Ext lev s (up lev c (suc (lev h))) (marked (at s h) k r s) = marked_ext e edges vertices start lev s h k r f w.base w.here w.near l fresh in
      record {
        lev = up lev c (suc (lev h));
        base = marked_base e edges vertices start lev s h k r f w.base w.here w.near l fresh;
        here = lt_of_lt_of_le w.here x.more;
        vertex = x.same h w.here;
        near = λ i ki.
            rw (x.level h w.here)
            (⊎_elim (λ lt. rw (x.level i lt) (w.near i lt)) (λ (eq : i ≡ s.count). rw (eq, up_new) (le_refl _)) (lt_cases i c (omega (arith, count_marked (at s h) k r s))));
        past = λ i ih. done_ext i edges x (omega (arith, w.here)) (w.past i ih);
        present = λ g q gk ld.
            ⊎_elim (λ lt. done_ext h k x w.here w.present g q lt ld)
            (λ eq. hit_as (only q (leads_as eq (x.same h w.here) ld)) (record {
              k = c;
              lt = omega (arith, count_marked (at s h) k r s);
              is = at_new (at s h) k r s vertices w.base.ok (omega (arith, leads_below f l, f.vertices)) fresh;
              near = rw (up_new, x.level h w.here) (le_refl _);
            }))
            (suc_cases g k gk);
      }

  walk_reached : (h k r : ℕ) (s : Scan) → Walk e edges vertices start h (at s h) k s → Leads e edges k (at s h) r → ((q : ℕ) → Leads e edges k (at s h) q → q ≡ r) →
      Walk e edges vertices start h (at s h) (suc k) (reached (at s h) k r s)
  unfolding reached
  walk_reached h k r s w l only =
      pick_ind (Walk e edges vertices start h (at s h) (suc k)) _ _ _
      (λ seen. let (i, ki, y) = w.base.listed r seen in
      walk_same h (at s h) k s w (λ q lq. hit_as (only q lq) (record { k = i; lt = ki; is = y; near = w.near i ki })))
      (λ fresh. walk_fresh h k r s w l only fresh)

  walk_step : (h p k : ℕ) (s : Scan) → k < edges → Walk e edges vertices start h p k s → Walk e edges vertices start h p (suc k) (visited e p k s)
  walk_step h p k s kg w =
      subst (λ p. Walk e edges vertices start h p k s → Walk e edges vertices start h p (suc k) (visited e p k s)) w.vertex
      (λ w. visited_view e edges (at s h) k s (Walk e edges vertices start h (at s h) (suc k)) kg (λ none. walk_same h (at s h) k s w (λ q l. absurd (none q l)))
      (λ r l only. walk_reached h k r s w l only)) w

  walk_all : (h : ℕ) (s : Scan) → h < s.count → Pop e edges vertices start h s → Walk e edges vertices start h (at s h) edges (walked e edges (at s h) s)
  walk_all h s hc p =
      iter_ind (Walk e edges vertices start h (at s h)) (visited e (at s h)) s edges
      (record {
        lev = p.lev;
        base = p.base;
        here = hc;
        vertex = refl;
        near = p.near hc;
        past = λ i ih. p.past i ih (omega arith);
        present = λ g q gk. absurd (not-suc-le-zero gk);
      })
      (λ k x kg w. walk_step h (at s h) k x kg w)

  pop_after : (h p : ℕ) (x : Scan) → Walk e edges vertices start h p edges x → Pop e edges vertices start (suc h) x
  pop_after h p x w = record {
    lev = w.lev;
    base = w.base;
    near = λ hc i ki. omega (arith, w.near i ki, w.base.mono h (suc h) (omega arith) hc);
    past = λ i ih ki. ⊎_elim (λ lt. w.past i lt) (λ (eq : i ≡ h). subst (λ i. Done e edges w.lev x i edges) (sym eq) w.present) (suc_cases i h ih);
  }

  pop_none : (h : ℕ) (s : Scan) → s.count ≤ h → Pop e edges vertices start h s → Pop e edges vertices start (suc h) s
  pop_none h s c p = record {
    lev = p.lev;
    base = p.base;
    near = λ hc. absurd (omega arith);
    past = λ i ih ki. p.past i (omega arith) ki;
  }

  pop_step : (h : ℕ) (s : Scan) → Pop e edges vertices start h s → Pop e edges vertices start (suc h) (popped e edges h s)
  unfolding popped
  pop_step h s p =
      pick_ind (Pop e edges vertices start (suc h)) _ _ _ (λ t. pop_after h (at s h) _ (walk_all h s (ltb-true _ _ t) p)) (λ t. pop_none h s (ltb-false _ _ t) p)

  -- one vertex alone
  module _ (s : Scan) (fr : Fresh s) (h : start < vertices) where
    begun : reached start 0 start s ≡ marked start 0 start s
    unfolding reached pick
    begun = simp (fr.nothing start)

    begun_base : Base e edges vertices start (λ _. 0) (marked start 0 start s)
    begun_base =
        let b : start < 64 = omega (arith, f.vertices) in
        let c : (marked start 0 start s).count ≡ 1 = omega (arith, count_marked start 0 start s, fr.zero) in
        let z : at (marked start 0 start s) 0 ≡ start = subst (λ i. at (marked start 0 start s) i ≡ start) fr.zero (at_new start 0 start s vertices (fresh_ok vertices s fr) b (fr.nothing start)) in
        record {
          ok = subst (Ok vertices) begun (begun_ok vertices start s f.vertices h fr);
          some = omega arith;
          first = z;
          flat = refl;
          listed = λ q t. ⊎_elim (λ x. (0, omega arith, z ∙ sym x)) (λ x. absurd (true≢false (sym x ∙ fr.nothing q))) (seen_cases start 0 start s vertices (fresh_ok vertices s fr) b (fr.nothing start) q t);
          only = λ i k. let i0 : i ≡ 0 = omega arith in rw (i0, z) (seen_new start 0 start s vertices (fresh_ok vertices s fr) b (fr.nothing start));
          once = λ i j ki kj _. omega arith;
          parent = λ i k. inl (omega arith);
          mono = λ i j _ _. le_refl 0;
        }

    pub pop_all : Pop e edges vertices start vertices (searched_on e edges vertices start s)
    unfolding searched_on
    pop_all =
        iter_ind (Pop e edges vertices start) (popped e edges) (reached start 0 start s) vertices
        (rw begun (record {
          lev = λ _. 0;
          base = begun_base;
          near = λ _ i _. zero-le;
          past = λ i ih. absurd (not-suc-le-zero ih);
        }))
        (λ k x _ p. pop_step k x p)
