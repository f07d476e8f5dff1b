-- Literals that agree on the edges there are give the same lists.
use Prim.Native.Nat.{ℕ, zero, suc, pred, ◌<◌, ◌≤◌}
use native.Mathlib.Nat.{le_step, lt-suc_self, not-suc-le-zero}
use mathlib.Core.Path.{◌≡◌, refl, ap, ap₂}
use mathlib.Core.List.{List, [], ◌∷◌, ◌++◌, map}
use Rattle.base.specs.Iter.{pick}
use Rattle.base.specs.Lists.{collect}
use Rattle.sat.specs.Literal.{negate}
use Rattle.graph.specs.Search.{Graph, reached_yet, searched}
use Rattle.graph.specs.Bounds.{Fine}
use Rattle.graph.specs.Paths.{Chain, here, there, Joined}
use Rattle.graph.proofs.Found.{found}
use Rattle.walks.specs.Walk.{path_back, path_list, tree_list, decided_list, leaves, walls_of, border_list, potential_list}
use Rattle.walks.proofs.Lists.{tree_of}

collect_same : (f g : ℕ → List ℕ) (n : ℕ) → ((i : ℕ) → i < n → f i ≡ g i) → collect f n ≡ collect g n
unfolding collect
collect_same f g zero h = refl
collect_same f g (suc n) h = ap₂ ◌++◌ (collect_same f g n (λ i k. h i (le_step k))) (h n (lt-suc_self n))

chain_same : {e : Graph} {edges p : ℕ} (a b : ℕ → ℕ) → ((g : ℕ) → g < edges → a g ≡ b g) → {l : List ℕ} {q : ℕ} → Chain e edges p l q → map (λ g. negate (a g)) l ≡ map (λ g. negate (b g)) l
chain_same a b h here = refl
chain_same a b h (there g c l) = ap₂ (λ (x : ℕ) (y : List ℕ). x ∷ y) (ap negate (h g l.known)) (chain_same a b h c)

module _ (a b : ℕ → ℕ) (e : Graph) (edges vertices u : ℕ) (h : (g : ℕ) → g < edges → a g ≡ b g) where
  pub potential_same : potential_list a e edges vertices u ≡ potential_list b e edges vertices u
  unfolding potential_list border_list walls_of
  potential_same =
      let r = reached_yet (searched e edges vertices u) in
      collect_same _ _ vertices (λ p _. ap (λ (l : List ℕ). pick (r p) l []) (collect_same _ _ edges (λ g k. ap (λ (x : ℕ). pick (leaves e r p g) (x ∷ []) []) (h g k))))

  module _ (f : Fine vertices edges e.ends) (s : u < vertices) where
    pub decided_same : decided_list a e edges vertices u ≡ decided_list b e edges vertices u
    unfolding decided_list tree_list
    decided_same =
        collect_same _ _ (pred (searched e edges vertices u).count)
        (λ i k. let w = (tree_of e edges vertices u f s a).joins i (after i (searched e edges vertices u).count k) in ap (λ (x : ℕ). negate x ∷ []) (h _ w.2.known))
      where
        after : (i n : ℕ) → i < pred n → suc i < n
        after i zero k = absurd (not-suc-le-zero k)
        after i (suc n) k = Prim.Native.Nat.suc-le-suc k

    pub path_same : (v : ℕ) → Joined e edges u v → path_list a e edges vertices u v ≡ path_list b e edges vertices u v
    unfolding path_list path_back
    path_same v j = let d = found e edges vertices u f s in chain_same a b h (d.path v (d.all v j.0 j.1))
