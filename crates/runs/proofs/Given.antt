-- What `best_run` gives: the best run, with fewer edges than there are vertices; and none only where one is no vertex or no run joins them.
--     given_best, none_joined    what it gives
--     best_given                 and so, of two vertices, exactly the best run
--     equal_given                from a vertex to itself the empty one
use Prim.Native.Nat.{ℕ, ◌+◌, ◌<◌, zero-le}
use native.Mathlib.Omega.{arith}
use mathlib.Core.Path.{◌≡◌, refl, sym, ◌∙◌, ap, subst}
use mathlib.Core.Logic.{◌⊎◌, inl, inr}
use mathlib.Core.List.{List, [], ◌∷◌}
use lib.Dec.{eqb, ltb}
use lib.ListN.{length, get_or}
use borrow.Author.Tests.{ltb-true, lt-ltb}
use Rattle.base.proofs.Loop.{pick_yes, pick_no, tested}
use Rattle.base.specs.Lists.{Every, none, more}
use Rattle.graph.specs.Search.{Graph}
use Rattle.graph.specs.Bounds.{Fine}
use Rattle.runs.specs.Run.{Run, here, along, undecided, Best, First}
use Rattle.runs.specs.Run as run
use Rattle.runs.specs.Rounds.{distances}
use Rattle.runs.specs.Walk.{run_from, run_along, best_run}
use Rattle.runs.proofs.Settled.{run_best, run_few, not_joined}

-- ---- the best run is one
heads : {a b : List ℕ} {l m : List (List ℕ)} → a ∷ l ≡ b ∷ m → a ≡ b
heads q = cc

tails : {a b : List ℕ} {l m : List (List ℕ)} → a ∷ l ≡ b ∷ m → l ≡ m
tails q = cc

none_some : {x : List ℕ} {k : List (List ℕ)} → [] ≡ x ∷ k → ⊥
none_some q = let z : ◌≡◌ {A = ℕ} 0 _ = ap length q in omega arith

-- one list comes first by its first element, or by what follows it
first_parts : (x y : ℕ) (l m : List ℕ) → First (x ∷ l) (y ∷ m) → (x < y) ⊎ ((x ≡ y) × First l m)
first_parts x y l m (run.less a) = inl a
first_parts x y l m (run.same a) = inr (refl, a)

-- of two lists of one length that both come first
both_first : (l m : List ℕ) → length l ≡ length m → First l m → First m l → l ≡ m
both_first [] [] h a b = refl
both_first [] (y ∷ m) h a b = absurd (omega arith)
both_first (x ∷ l) [] h a b = absurd (omega arith)
both_first (x ∷ l) (y ∷ m) h a b =
    elim (first_parts x y l m a) [
      | inl s ↦ elim (first_parts y x m l b) [ inl t ↦ absurd (omega arith) | inr t ↦ absurd (omega (arith, t.0)) ]
      | inr s ↦ elim (first_parts y x m l b) [
        | inl t ↦ absurd (omega (arith, s.0))
        | inr t ↦ let e : l ≡ m = both_first l m (omega arith) s.1 t.1 in λ i. s.0 i ∷ e i
      ]
    ]

pub best_one : {e : Graph} {edges p q : ℕ} (l m : List ℕ) → Best e edges p q l → Best e edges p q m → l ≡ m
best_one {e} l m a b =
    let x = a.least m b.run in
    let y = b.least l a.run in
    let u : undecided e l ≡ undecided e m = omega (arith, x.fewer, y.fewer) in
    let n : length l ≡ length m = omega (arith, x.then u, y.then (sym u)) in
    both_first l m n (a.first m b.run u n) (b.first l a.run (sym u) (sym n))

-- each of its edges is one of the graph's
pub run_edges : {e : Graph} {edges p q : ℕ} (l : List ℕ) → Run e edges p l q → Every (λ g. g < edges) l
run_edges [] here = none
run_edges (g ∷ l) (along g' a r) = more a.known (run_edges l r)

module _ (e : Graph) (edges vertices : ℕ) (fine : Fine vertices edges e.ends) (p q : ℕ) where
  -- what is given
  pub record IsBest (l : List ℕ) : Type 0 where
    pub from : p < vertices
    pub to : q < vertices
    pub best : Best e edges p q l
    pub few : length l < vertices

  pub given_best : (l : List ℕ) (ls : List (List ℕ)) → best_run e edges vertices p q ≡ l ∷ ls → IsBest l × (ls ≡ [])
  unfolding best_run run_along
  given_best l ls x = tested (ltb p vertices)
      (λ a. tested (ltb q vertices)
      (λ b. tested (eqb (get_or (distances e edges vertices q) (128 + p) 0) 1)
      (λ s.
      let y : run_from e edges (distances e edges vertices q) p ∷ [] ≡ l ∷ ls = sym (pick_yes _ _ a ∙ pick_yes _ _ b ∙ pick_yes _ _ s) ∙ x in
      let f = ltb-true p vertices a in
      let t = ltb-true q vertices b in
      (subst IsBest (heads y) (record { from = f; to = t; best = run_best e edges vertices fine q t p s; few = run_few e edges vertices fine q t p s f }), sym (tails y)))
      (λ s. absurd (none_some (sym (pick_yes _ _ a ∙ pick_yes _ _ b ∙ pick_no _ _ s) ∙ x))))
      (λ b. absurd (none_some (sym (pick_yes _ _ a ∙ pick_no _ _ b) ∙ x))))
      (λ a. absurd (none_some (sym (pick_no _ _ a) ∙ x)))

  pub none_joined : best_run e edges vertices p q ≡ [] → p < vertices → q < vertices → (m : List ℕ) → Run e edges p m q → ⊥
  unfolding best_run run_along
  none_joined x f t m c = tested (eqb (get_or (distances e edges vertices q) (128 + p) 0) 1)
      (λ s. none_some (sym x ∙ (pick_yes _ _ (lt-ltb p vertices f) ∙ pick_yes _ _ (lt-ltb q vertices t) ∙ pick_yes _ _ s)))
      (λ s. not_joined e edges vertices fine q t p s m c)

  -- of two vertices, exactly the best run
  pub best_given : (l : List ℕ) → p < vertices → q < vertices → Best e edges p q l → best_run e edges vertices p q ≡ l ∷ []
  best_given l f t b = by (best_run e edges vertices p q) refl
    where
      by : (x : List (List ℕ)) → best_run e edges vertices p q ≡ x → best_run e edges vertices p q ≡ l ∷ []
      by [] y = absurd (none_joined y f t l b.run)
      by (m ∷ ms) y =
          let (i, n) = given_best m ms y in
          y ∙ (λ j. best_one m l i.best b j ∷ n j)

-- "Two equal pens give an empty run."
empty_best : (e : Graph) (edges p : ℕ) → Best e edges p p []
unfolding undecided
empty_best e edges p = record {
  run = here;
  least = λ m r. record { fewer = zero-le; then = λ _. zero-le };
  first = λ m r u n. run.none;
}

pub equal_given : (e : Graph) (edges vertices : ℕ) → Fine vertices edges e.ends → (p : ℕ) → p < vertices → best_run e edges vertices p p ≡ [] ∷ []
equal_given e edges vertices fine p h = best_given e edges vertices fine p p [] h h (empty_best e edges p)
