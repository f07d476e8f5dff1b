-- The answer case by case, as the code goes.
use Prim.Native.Nat.{ℕ, ◌+◌, ◌<◌, ◌≤◌}
use mathlib.Core.Path.{◌≡◌, sym, ◌∙◌, ap, subst}
use mathlib.Core.Bool.{Bool, true, false}
use mathlib.Core.List.{List}
use lib.ListN.{length, get_or}
use borrow.Author.Tests.{eq-eqb, ne_eqb, lt-ltb, le-ltb}
use Rattle.base.proofs.Loop.{pick_yes, pick_no}
use Rattle.graph.specs.Search.{graph}
use Rattle.graph.specs.Bounds.{Fine, walkable}
use Rattle.graph.proofs.Walkable.{walkable_fine}
use Rattle.std.specs.Prelude.{None, Some}
use Rattle.walks.specs.Written.{Out, out_of, written}
use Rattle.walks.specs.Answers.{Answer, answer_of, given, missing}
use Rattle.runs.specs.Rounds.{far_of, distances, Settled}
use Rattle.runs.specs.Walk.{run_from, run_along, best_run, listed, run_listed}
use Rattle.runs.specs.Small.{Small}
use Rattle.runs.proofs.Small.{distances_small}
use Rattle.runs.proofs.Settled.{distances_settled}

-- ---- two vertices of a graph that can be walked
module _ (es : List (List ℕ)) (st : List ℕ) (edges vertices from to : ℕ) (fine : Fine vertices edges es) (k : from < vertices)
    (q : to < vertices) (w : List ℕ) (h : w ≡ distances (graph es st true) edges vertices to) where
  pub far_small : Small 1000000 w
  far_small = subst (Small 1000000) (sym h) (distances_small _ _ _ _ fine.fits fine.vertices)

  pub far_settled : Settled (graph es st true) edges to (far_of w)
  far_settled = subst (λ (x : List ℕ). Settled (graph es st true) edges to (far_of x)) (sym h) (distances_settled (graph es st true) edges vertices fine to q)

  pub run_told : (x : ℕ) (b b' : List ℕ) → get_or w (128 + from) 0 ≡ 1 → out_of b' x ≡ written (run_from (graph es st true) edges w from) (out_of b 0) →
      answer_of (Some x) b' ≡ listed (run_along (graph es st true) edges (distances (graph es st true) edges vertices to) from) (out_of b 0)
  unfolding run_along listed given
  run_told x b b' s o =
      ap (λ (y : Out). answer_of (Some y.place) y.text) o
      ∙ sym (ap (λ (y : List (List ℕ)). listed y (out_of b 0)) (pick_yes _ _ (eq-eqb _ _ s)))
      ∙ ap (λ (x : List ℕ). listed (run_along (graph es st true) edges x from) (out_of b 0)) h

  pub none_told : (b : List ℕ) → (get_or w (128 + from) 0 ≡ 1 → ⊥) →
      answer_of None b ≡ listed (run_along (graph es st true) edges (distances (graph es st true) edges vertices to) from) (out_of b 0)
  unfolding run_along listed missing
  none_told b n =
      sym (ap (λ (y : List (List ℕ)). listed y (out_of b 0)) (pick_no _ _ (ne_eqb _ _ n)))
      ∙ ap (λ (x : List ℕ). listed (run_along (graph es st true) edges x from) (out_of b 0)) h

-- ---- any input
module _ (es : List (List ℕ)) (st : List ℕ) (edges vertices from to : ℕ) (b : List ℕ) (o : Bool) (t : o ≡ walkable es st edges vertices) where
  pub unwalked : o ≡ false → answer_of None b ≡ run_listed es st edges vertices from to b
  unfolding run_listed missing
  unwalked u = sym (pick_no _ _ (sym t ∙ u))

  module _ (u : o ≡ true) where
    pub walked_fine : Fine vertices edges es × (edges ≤ length st)
    walked_fine = walkable_fine es st edges vertices (sym t ∙ u)

    whole : listed (best_run (graph es st true) edges vertices from to) (out_of b 0) ≡ run_listed es st edges vertices from to b
    unfolding run_listed
    whole = sym (pick_yes _ _ (sym t ∙ u))

    pub no_first : vertices ≤ from → answer_of None b ≡ run_listed es st edges vertices from to b
    unfolding best_run listed missing
    no_first n = sym (ap (λ (y : List (List ℕ)). listed y (out_of b 0)) (pick_no _ _ (le-ltb _ _ n))) ∙ whole

    pub no_last : from < vertices → vertices ≤ to → answer_of None b ≡ run_listed es st edges vertices from to b
    unfolding best_run listed missing
    no_last k n = sym (ap (λ (y : List (List ℕ)). listed y (out_of b 0)) (pick_yes _ _ (lt-ltb _ _ k) ∙ pick_no _ _ (le-ltb _ _ n))) ∙ whole

    pub walked_told : (a : Answer) → from < vertices → to < vertices →
        a ≡ listed (run_along (graph es st true) edges (distances (graph es st true) edges vertices to) from) (out_of b 0) → a ≡ run_listed es st edges vertices from to b
    unfolding best_run
    walked_told a k q h = h ∙ sym (ap (λ (y : List (List ℕ)). listed y (out_of b 0)) (pick_yes _ _ (lt-ltb _ _ k) ∙ pick_yes _ _ (lt-ltb _ _ q))) ∙ whole
