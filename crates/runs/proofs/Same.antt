-- Graphs that agree on the edges have the same runs, and so the same best one.
use Prim.Native.Nat.{ℕ, ◌+◌, ◌<◌}
use mathlib.Core.Path.{◌≡◌, refl, sym, ◌∙◌, ap, ap₂, subst}
use mathlib.Core.Bool.{true}
use mathlib.Core.List.{List, [], ◌∷◌}
use lib.Dec.{eqb}
use lib.ListN.{length, get_or}
use Rattle.base.specs.Iter.{pick}
use Rattle.base.specs.Lists.{Every, none, more}
use Rattle.graph.specs.Search.{Graph, graph, passes}
use Rattle.graph.specs.Bounds.{Fine}
use Rattle.runs.specs.Run.{Run, here, along, is_undecided, undecided, AtMost, Best}
use Rattle.runs.specs.Walk.{best_run}
use Rattle.runs.proofs.Given.{run_edges, given_best, none_joined, best_given}

module _ (es : List (List ℕ)) (edges : ℕ) where
  abbrev of : List ℕ → Graph
  of st = graph es st true

  abbrev Alike : List ℕ → List ℕ → Type 0
  Alike s t = (g : ℕ) → g < edges → get_or s g 0 ≡ get_or t g 0

  run_same : (s t : List ℕ) → Alike s t → {p q : ℕ} (l : List ℕ) → Run (of s) edges p l q → Run (of t) edges p l q
  run_same s t h [] here = here
  run_same s t h (g ∷ l) (along g' a r) =
      along g (record { known = a.known; passed = ap (passes true) (sym (h g a.known)) ∙ a.passed; ends = a.ends }) (run_same s t h l r)

  undecided_same : (s t : List ℕ) → Alike s t → (l : List ℕ) → Every (λ g. g < edges) l → undecided (of s) l ≡ undecided (of t) l
  unfolding undecided is_undecided
  undecided_same s t h [] none = refl
  undecided_same s t h (g ∷ l) (more a e) = ap₂ (λ (x n : ℕ). pick (eqb x 0) 1 0 + n) (h g a) (undecided_same s t h l e)

  best_same : (s t : List ℕ) → Alike s t → {p q : ℕ} (l : List ℕ) → Best (of s) edges p q l → Best (of t) edges p q l
  best_same s t h l b =
      let back : Alike t s = λ g k. sym (h g k) in
      let u = undecided_same s t h l (run_edges l b.run) in
      record {
        run = run_same s t h l b.run;
        least = λ m r.
            let n = run_same t s back m r in
            subst (λ (x : ℕ). AtMost x (length l) (undecided (of t) m) (length m)) u
            (subst (λ (x : ℕ). AtMost (undecided (of s) l) (length l) x (length m)) (undecided_same s t h m (run_edges m n)) (b.least m n));
        first = λ m r v n.
            let o = run_same t s back m r in
            b.first m o (u ∙ v ∙ sym (undecided_same s t h m (run_edges m o))) n;
      }

  pub same_given : (vertices : ℕ) → Fine vertices edges es → (s t : List ℕ) → Alike s t → (p q : ℕ) → best_run (of s) edges vertices p q ≡ best_run (of t) edges vertices p q
  same_given vertices fine s t h p q = by (best_run (of s) edges vertices p q) (best_run (of t) edges vertices p q) refl refl
    where
      by : (x y : List (List ℕ)) → best_run (of s) edges vertices p q ≡ x → best_run (of t) edges vertices p q ≡ y → best_run (of s) edges vertices p q ≡ best_run (of t) edges vertices p q
      by [] [] a b = a ∙ sym b
      by [] (m ∷ ms) a b =
          let i = (given_best (of t) edges vertices fine p q m ms b).0 in
          absurd (none_joined (of s) edges vertices fine p q a i.from i.to m (run_same t s (λ g k. sym (h g k)) m i.best.run))
      by (l ∷ ls) y a b =
          let (i, n) = given_best (of s) edges vertices fine p q l ls a in
          a ∙ (λ j. l ∷ n j) ∙ sym (best_given (of t) edges vertices fine p q l i.from i.to (best_same s t h l i.best))
