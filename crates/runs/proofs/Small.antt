-- A relaxation adds at most one to the largest word, so distances stay small.
use Prim.Native.Nat.{ℕ, zero, suc, ◌+◌, ◌*◌, ◌≤◌}
use native.Mathlib.Omega.{arith}
use mathlib.Core.Path.{◌≡◌, sym, subst}
use mathlib.Core.Bool.{Bool}
use mathlib.Core.List.{List, [], ◌∷◌}
use lib.ListN.{get_or, set, replicate}
use Rattle.base.specs.Iter.{iter, pick}
use Rattle.base.proofs.Loop.{pick_ind}
use Rattle.graph.specs.Search.{Graph}
use Rattle.runs.specs.Run.{is_undecided}
use Rattle.runs.specs.Rounds.{stored, relaxed, relaxed_edge, round, distances}
use Rattle.runs.specs.Small.{Small, blank}
use Rattle.runs.proofs.Eased.{rounds_of}

pub small_more : (k m : ℕ) (w : List ℕ) → k ≤ m → Small k w → Small m w
small_more k m w h s = record { all = λ i. omega (arith, s.all i) }

set_most : (k : ℕ) (w : List ℕ) (i j x : ℕ) → ((n : ℕ) → get_or w n 0 ≤ k) → x ≤ k → get_or (set w i x) j 0 ≤ k
set_most k [] i j x s h = s j
set_most k (y ∷ w) zero zero x s h = h
set_most k (y ∷ w) zero (suc j) x s h = s (suc j)
set_most k (y ∷ w) (suc i) zero x s h = s 0
set_most k (y ∷ w) (suc i) (suc j) x s h = set_most k w i j x (λ n. s (suc n)) h

small_set : (k : ℕ) (w : List ℕ) (i x : ℕ) → Small k w → x ≤ k → Small k (set w i x)
small_set k w i x s h = record { all = λ j. set_most k w i j x s.all h }

pub stored_small : (k p a b : ℕ) (w : List ℕ) → Small k w → a ≤ k → b ≤ k → 1 ≤ k → Small k (stored p a b w)
unfolding stored
stored_small k p a b w s h l o = small_set k _ (128 + p) 1 (small_set k _ (64 + p) b (small_set k w p a s h) l) o

pub one_most : (e : Graph) (g : ℕ) → is_undecided e g ≤ 1
unfolding is_undecided
one_most e g = pick_ind (λ (x : ℕ). x ≤ 1) _ _ _ (λ _. omega arith) (λ _. omega arith)

pub one_of : (b : Bool) (k : ℕ) → k ≡ pick b 1 0 → k ≤ 1
one_of b k h = subst (λ (x : ℕ). x ≤ 1) (sym h) (pick_ind (λ (x : ℕ). x ≤ 1) b 1 0 (λ _. omega arith) (λ _. omega arith))

module _ (e : Graph) where
  pub relaxed_small : (k g p r : ℕ) (w : List ℕ) → Small k w → Small (suc k) (relaxed e g p r w)
  unfolding relaxed
  relaxed_small k g p r w s = pick_ind (Small (suc k)) _ _ _
      (λ _. stored_small (suc k) p _ _ w (small_more k (suc k) w (omega arith) s) (omega (arith, one_most e g, s.all r)) (omega (arith, s.all (64 + r))) (omega arith))
      (λ _. small_more k (suc k) w (omega arith) s)

  pub edge_small : (k g : ℕ) (w : List ℕ) → Small k w → Small (2 + k) (relaxed_edge e g w)
  unfolding relaxed_edge
  edge_small k g w s = pick_ind (Small (2 + k)) _ _ _
      (λ _. small_more (suc (suc k)) (2 + k) _ (omega arith) (relaxed_small (suc k) g _ _ _ (relaxed_small k g _ _ w s)))
      (λ _. small_more k (2 + k) w (omega arith) s)

  pub edges_small : (k n : ℕ) (w : List ℕ) → Small k w → Small (2 * n + k) (iter (relaxed_edge e) n w)
  unfolding iter
  edges_small k zero w s = small_more k _ w (omega arith) s
  edges_small k (suc n) w s = small_more (2 + (2 * n + k)) _ _ (omega arith) (edge_small (2 * n + k) n _ (edges_small k n w s))

  pub rounds_small : (edges i : ℕ) (w : List ℕ) → edges ≤ 128 → Small 1 w → Small (256 * i + 1) (iter (λ _ w. round e edges w) i w)
  unfolding iter round
  rounds_small edges zero w h s = small_more 1 _ w (omega arith) s
  rounds_small edges (suc i) w h s =
      small_more (2 * edges + (256 * i + 1)) _ _ (omega arith) (edges_small (256 * i + 1) edges _ (rounds_small edges i w h s))

zeros : (n i : ℕ) → get_or {A = ℕ} (replicate n 0) i 0 ≤ 1
zeros zero i = omega arith
zeros (suc n) zero = omega arith
zeros (suc n) (suc i) = zeros n i

pub first_small : (q : ℕ) → Small 1 (stored q 0 0 (replicate 192 0))
first_small q = stored_small 1 q 0 0 _ (record { all = zeros 192 }) (omega arith) (omega arith) (omega arith)

pub distances_small : (e : Graph) (edges vertices q : ℕ) → edges ≤ 128 → vertices ≤ 64 → Small 1000000 (distances e edges vertices q)
unfolding distances
distances_small e edges vertices q h k = small_more (256 * vertices + 1) _ _ (omega arith) (rounds_small e edges vertices _ h (first_small q))

pub rounds_of_small : (e : Graph) (edges q i : ℕ) → edges ≤ 128 → i ≤ 64 → Small 900000 (rounds_of e edges q i)
unfolding rounds_of blank
rounds_of_small e edges q i h k = small_more (256 * i + 1) _ _ (omega arith) (rounds_small e edges i _ h (first_small q))
