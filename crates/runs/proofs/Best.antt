-- The walk along settled distances is the best run.
use Prim.Native.Nat.{ℕ, zero, suc, ◌+◌, ◌<◌}
use native.Mathlib.Omega.{arith}
use mathlib.Core.Path.{◌≡◌, refl, sym, ◌∙◌, ap, subst}
use mathlib.Core.Logic.{◌⊎◌, inl, inr, ⊎_elim}
use mathlib.Core.Bool.{Bool, true, false, ◌&&◌, ◌||◌, false≢true}
use mathlib.Core.List.{List, [], ◌∷◌}
use lib.Dec.{eqb}
use lib.ListN.{length}
use borrow.Author.Tests.{eqb-true, eq-eqb, ne_eqb}
use Rattle.base.proofs.Loop.{pick_yes, pick_no, eq_or_not}
use Rattle.base.proofs.Tests.{and_left, and_right, or_cases}
use Rattle.graph.specs.Search.{Graph, is_open, end_a, end_b}
use Rattle.graph.specs.Paths.{Leads}
use Rattle.division.specs.Regions.{lowest}
use Rattle.division.proofs.Phases.{lowest_true}
use Rattle.division.proofs.Views.{lowest_most, lowest_some}
use Rattle.runs.specs.Run.{Run, here, along, is_undecided, undecided, AtMost, First, none, less, same, Best}
use Rattle.runs.specs.Rounds.{Far, Settled}
use Rattle.runs.specs.Walk.{other, onward, walked}

both : {a b : Bool} → a ≡ true → b ≡ true → (a && b) ≡ true
both {a} {b} e f = ap (λ (x : Bool). x && b) e ∙ f

either : (a b : Bool) → (a ≡ true) ⊎ (b ≡ true) → (a || b) ≡ true
either true b h = refl
either false b h = ⊎_elim (λ (x : false ≡ true). absurd (false≢true x)) (λ x. x) h

module _ (e : Graph) (edges q : ℕ) (f : Far) (w : Settled e edges q f) where
  -- an edge seen from one end leads to the other
  leads_other : (g p r : ℕ) → Leads e edges g p r → other e g p ≡ r
  leads_other g p r l = ⊎_elim
      (λ (x : (end_a e g ≡ p) × (end_b e g ≡ r)). pick_yes _ _ (eq-eqb _ _ x.0) ∙ x.1)
      (λ (x : (end_b e g ≡ p) × (end_a e g ≡ r)). ⊎_elim
      (λ (y : end_a e g ≡ p). pick_yes _ _ (eq-eqb _ _ y) ∙ x.0 ∙ sym y ∙ x.1)
      (λ y. pick_no _ _ (ne_eqb _ _ y) ∙ x.1)
      (eq_or_not (end_a e g) p))
      l.ends

  other_leads : (g p : ℕ) → g < edges → is_open e g ≡ true → (eqb (end_a e g) p || eqb (end_b e g) p) ≡ true → Leads e edges g p (other e g p)
  other_leads g p h o t = record {
    known = h;
    passed = o;
    ends = ⊎_elim
        (λ (x : end_a e g ≡ p). inl (x, sym (pick_yes _ _ (eq-eqb _ _ x))))
        (λ (x : end_a e g ≡ p → ⊥). ⊎_elim
        (λ (y : eqb (end_a e g) p ≡ true). absurd (x (eqb-true _ _ y)))
        (λ y. inr (eqb-true _ _ y, sym (pick_no _ _ (ne_eqb _ _ x))))
        (or_cases _ _ t))
        (eq_or_not (end_a e g) p);
  }

  pub record Next (p g r : ℕ) : Type 0 where
    pub leads : Leads e edges g p r
    pub seen : f.seen r ≡ true
    pub und : f.und p ≡ is_undecided e g + f.und r
    pub len : f.len p ≡ suc (f.len r)

  next_onward : (p g r : ℕ) → Next p g r → onward e f p g ≡ true
  unfolding onward
  next_onward p g r n =
      let o = leads_other g p r n.leads in
      both n.leads.passed (both (either _ _ (⊎_elim (λ x. inl (eq-eqb _ _ x.0)) (λ x. inr (eq-eqb _ _ x.0)) n.leads.ends))
      (both (ap f.seen o ∙ n.seen) (both (eq-eqb _ _ (n.und ∙ ap (λ (x : ℕ). is_undecided e g + f.und x) (sym o))) (eq-eqb _ _ (n.len ∙ ap (λ (x : ℕ). suc (f.len x)) (sym o))))))

  onward_next : (p g : ℕ) → g < edges → onward e f p g ≡ true → Next p g (other e g p)
  unfolding onward
  onward_next p g h t =
      let a = and_right (is_open e g) _ t in
      let b = and_right (eqb (end_a e g) p || eqb (end_b e g) p) _ a in
      let c = and_right (f.seen (other e g p)) _ b in
      record {
        leads = other_leads g p h (and_left (is_open e g) _ t) (and_left (eqb (end_a e g) p || eqb (end_b e g) p) _ a);
        seen = and_left (f.seen (other e g p)) _ b;
        und = eqb-true _ _ (and_left (eqb (f.und p) (is_undecided e g + f.und (other e g p))) _ c);
        len = eqb-true _ _ (and_right (eqb (f.und p) (is_undecided e g + f.und (other e g p))) _ c);
      }

  -- ---- no run is shorter
  record Bound (p : ℕ) (m : List ℕ) : Type 0 where
    seen : f.seen p ≡ true
    most : AtMost (f.und p) (f.len p) (undecided e m) (length m)

  bound : (p : ℕ) (m : List ℕ) → Run e edges p m q → Bound p m
  unfolding undecided
  bound p [] here = record { seen = w.start; most = record { fewer = omega (arith, w.start_und); then = λ x. omega (arith, w.start_len) } }
  bound p (g ∷ m) (along {r = r} g' l c) =
      let b = bound r m c in
      let a = w.edge g p r l b.seen in
      record {
        seen = w.edge_seen g p r l b.seen;
        most = record {
          fewer = omega (arith, a.fewer, b.most.fewer);
          then = λ x.
              let k : f.und r ≡ undecided e m = omega (arith, a.fewer, b.most.fewer) in
              let j : f.und p ≡ is_undecided e g + f.und r = omega (arith, a.fewer, b.most.fewer) in
              omega (arith, b.most.then k, a.then j);
        };
      }

  -- ---- the next edge
  pub record Step (p : ℕ) : Type 0 where
    pub below : lowest (onward e f p) edges < edges
    pub next : Next p (lowest (onward e f p) edges) (other e (lowest (onward e f p) edges) p)

  stepped : (p g r : ℕ) → Next p g r → Step p
  stepped p g r n =
      let t = next_onward p g r n in
      let k = lowest_some (onward e f p) edges g n.leads.known t in
      record { below = k; next = onward_next p (lowest (onward e f p) edges) k (lowest_true (onward e f p) edges k) }

  pub due_step : (p : ℕ) → f.seen p ≡ true → (p ≡ q → ⊥) → Step p
  due_step p s n = let d = w.due p s n in stepped p d.0 d.1 (record { leads = d.2; seen = d.3; und = d.4; len = d.5 })

  -- ---- the walk is a run with those counts
  pub record Walk (n p : ℕ) : Type 0 where
    pub run : Run e edges p (walked e edges f n p) q
    pub und : undecided e (walked e edges f n p) ≡ f.und p
    pub len : length (walked e edges f n p) ≡ n

  at_goal : (p : ℕ) → f.seen p ≡ true → f.len p ≡ 0 → p ≡ q
  at_goal p s z = ⊎_elim (λ x. x) (λ x. let d = w.due p s x in absurd (omega (arith, d.5))) (eq_or_not p q)

  pub not_goal : (p n : ℕ) → f.len p ≡ suc n → p ≡ q → ⊥
  not_goal p n h x = let z : f.len p ≡ 0 = ap f.len x ∙ w.start_len in omega arith

  pub walk : (n p : ℕ) → f.seen p ≡ true → f.len p ≡ n → Walk n p
  unfolding walked undecided
  walk zero p s h =
      let x = at_goal p s h in
      record { run = subst (λ (y : ℕ). Run e edges p [] y) x here; und = sym w.start_und ∙ ap f.und (sym x); len = refl }
  walk (suc n) p s h =
      let t = due_step p s (not_goal p n h) in
      let z = walk n (other e (lowest (onward e f p) edges) p) t.next.seen (omega (arith, t.next.len)) in
      record {
        run = along (lowest (onward e f p) edges) t.next.leads z.run;
        und = ap (λ (x : ℕ). is_undecided e (lowest (onward e f p) edges) + x) z.und ∙ sym t.next.und;
        len = omega (arith, z.len);
      }

  -- ---- and comes first among its equals
  first : (n p : ℕ) → f.seen p ≡ true → f.len p ≡ n → (m : List ℕ) → Run e edges p m q → f.und p ≡ undecided e m → n ≡ length m → First (walked e edges f n p) m
  unfolding walked undecided
  first zero p s h m c u k = none
  first (suc n) p s h [] here u k = absurd (omega arith)
  first (suc n) p s h (g ∷ m) (along {r = r} g' l c) u k =
      let b = bound r m c in
      let a = w.edge g p r l b.seen in
      let v : f.und p ≡ is_undecided e g + f.und r = omega (arith, a.fewer, b.most.fewer) in
      let y : f.und r ≡ undecided e m = omega arith in
      let x : f.len p ≡ suc (f.len r) = omega (arith, a.then v, b.most.then y) in
      let t = next_onward p g r (record { leads = l; seen = b.seen; und = v; len = x }) in
      let j = lowest_most (onward e f p) edges g l.known t in
      let z = first n r b.seen (omega arith) m c y (omega arith) in
      ⊎_elim
      (λ (i : lowest (onward e f p) edges ≡ g).
      subst (λ (a : ℕ). First (a ∷ walked e edges f n (other e a p)) (g ∷ m)) (sym i)
      (same (subst (λ (a : ℕ). First (walked e edges f n a) m) (sym (leads_other g p r l)) z)))
      (λ i. less (omega arith))
      (eq_or_not (lowest (onward e f p) edges) g)

  -- request 1's promise
  pub best : (p : ℕ) → f.seen p ≡ true → Best e edges p q (walked e edges f (f.len p) p)
  best p s =
      let z = walk (f.len p) p s refl in
      record {
        run = z.run;
        least = λ m c.
            let b = bound p m c in
            record { fewer = omega (arith, z.und, b.most.fewer); then = λ x. omega (arith, z.len, b.most.then (sym z.und ∙ x)) };
        first = λ m c u k. first (f.len p) p s refl m c (sym z.und ∙ u) (sym z.len ∙ k);
      }

  -- refusal 18: where the first vertex is not reached there is no run
  pub no_run : (p : ℕ) → f.seen p ≡ false → (m : List ℕ) → Run e edges p m q → ⊥
  no_run p s m c = false≢true (sym s ∙ (bound p m c).seen)
