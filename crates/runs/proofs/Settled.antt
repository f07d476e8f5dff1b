-- The distances that the rounds give are settled, and so the run along them is the best one and short.
use Prim.Native.Nat.{ℕ, ◌+◌, ◌-◌, ◌<◌, ◌≤◌}
use native.Mathlib.Omega.{arith}
use mathlib.Core.Path.{◌≡◌, refl, sym, subst}
use mathlib.Core.Logic.{⊎_elim}
use mathlib.Core.Bool.{true, false}
use mathlib.Core.List.{List}
use lib.Dec.{eqb}
use lib.ListN.{length, get_or}
use Rattle.graph.specs.Search.{Graph, end_a, end_b}
use Rattle.graph.specs.Bounds.{Fine}
use Rattle.graph.specs.Paths.{Leads}
use Rattle.runs.specs.Run.{Run, undecided, AtMost, Best}
use Rattle.runs.specs.Rounds.{far_of, distances, Settled}
use Rattle.runs.specs.Walk.{length_from, run_from}
use Rattle.runs.proofs.Best.{Walk, walk, best, no_run}
use Rattle.runs.proofs.Rounds.{Short, shorter, fair_after, fresh, after, settled}

pub leads_within : (e : Graph) (edges vertices : ℕ) → Fine vertices edges e.ends → (g p r : ℕ) → Leads e edges g p r → (p < vertices) × (r < vertices)
leads_within e edges vertices f g p r l =
    let d = f.within g l.known in
    ⊎_elim
    (λ (x : (end_a e g ≡ p) × (end_b e g ≡ r)). (subst (λ (y : ℕ). y < vertices) x.0 d.a, subst (λ (y : ℕ). y < vertices) x.1 d.b))
    (λ (x : (end_b e g ≡ p) × (end_a e g ≡ r)). (subst (λ (y : ℕ). y < vertices) x.0 d.b, subst (λ (y : ℕ). y < vertices) x.1 d.a))
    l.ends

fewer_edges : (a b c d n : ℕ) → AtMost a b c d → AtMost c d a b → d ≤ n - 1 → 0 < n → b < n
fewer_edges a b c d n x y h z = let u : a ≡ c = omega (arith, x.fewer, y.fewer) in omega (arith, x.then u)

module _ (e : Graph) (edges vertices : ℕ) (fine : Fine vertices edges e.ends) (to : ℕ) (known : to < vertices) where
  abbrev w : List ℕ
  w = distances e edges vertices to

  pub distances_settled : Settled e edges to (far_of (distances e edges vertices to))
  unfolding distances after
  distances_settled = settled e edges vertices to fine.vertices known (leads_within e edges vertices fine)

  module _ (from : ℕ) (s : eqb (get_or (distances e edges vertices to) (128 + from) 0) 1 ≡ true) where
    run_walk : Walk e edges to (far_of w) distances_settled (length_from w from) from
    run_walk = walk e edges to (far_of w) distances_settled (length_from w from) from s refl

    pub run_counted : length (run_from e edges (distances e edges vertices to) from) ≡ length_from (distances e edges vertices to) from
    unfolding run_from
    run_counted = run_walk.len

    pub run_best : Best e edges from to (run_from e edges (distances e edges vertices to) from)
    unfolding run_from
    run_best = best e edges to (far_of w) distances_settled from s

    module _ (h : from < vertices) where
      run_short : Short e edges vertices to fine.vertices known (leads_within e edges vertices fine) w (vertices - 1) from
      unfolding distances after
      run_short =
          let i = leads_within e edges vertices fine in
          shorter e edges vertices to fine.vertices known i w
          (fair_after e edges vertices to fine.vertices known i (fresh e edges vertices to fine.vertices known i) vertices) from h s

      -- it repeats no vertex, so it has fewer edges than there are vertices
      pub run_few : length (run_from e edges (distances e edges vertices to) from) < vertices
      unfolding run_from
      run_few =
          let x = run_short in
          let l = run_best.least x.edges_of x.run in
          let m : AtMost (undecided e x.edges_of) (length x.edges_of) (undecided e (run_from e edges w from)) (length (run_from e edges w from)) =
          subst (λ (u : ℕ). AtMost (undecided e x.edges_of) (length x.edges_of) u (length (run_from e edges w from))) (sym run_walk.und)
          (subst (λ (u : ℕ). AtMost (undecided e x.edges_of) (length x.edges_of) (get_or w from 0) u) (sym run_counted) x.most) in
          fewer_edges _ _ _ _ vertices l m x.few (omega arith)

  pub not_joined : (from : ℕ) → eqb (get_or (distances e edges vertices to) (128 + from) 0) 1 ≡ false → (m : List ℕ) → Run e edges from m to → ⊥
  not_joined from s m c = no_run e edges to (far_of w) distances_settled from s m c
