-- The region of a vertex is exactly the vertices that are joined to it, by labels and by the search alike; its weight is theirs.
use Prim.Native.Nat.{ℕ, zero, suc, ◌+◌, ◌<◌}
use native.Mathlib.Nat.{lt-suc_self, le_step}
use mathlib.Core.Path.{◌≡◌, refl, sym, ap, ap₂}
use mathlib.Core.Bool.{Bool, true, false}
use mathlib.Core.List.{List}
use lib.Dec.{eqb}
use borrow.Author.Tests.{eqb-true, eq-eqb}
use Rattle.base.specs.Iter.{pick}
use Rattle.base.specs.Lists.{total}
use Rattle.graph.specs.Search.{Graph, reached_yet, searched}
use Rattle.graph.specs.Bounds.{Fine}
use Rattle.graph.specs.Paths.{Joined}
use Rattle.regions.specs.Labels.{label_of, Labelled}
use Rattle.regions.specs.Buckets.{weight_of}
use Rattle.graph.proofs.Found.{found}

-- two tests that are true together are one
pub bool_same : (a b : Bool) → (a ≡ true → b ≡ true) → (b ≡ true → a ≡ true) → a ≡ b
bool_same true b f g = sym (f refl)
bool_same false true f g = g refl
bool_same false false f g = refl

pub total_same : (b d : ℕ → Bool) (w : ℕ → ℕ) (n : ℕ) → ((v : ℕ) → v < n → b v ≡ d v) → total b w n ≡ total d w n
unfolding total
total_same b d w zero h = refl
total_same b d w (suc n) h = ap₂ ◌+◌ (total_same b d w n (λ v k. h v (le_step k))) (ap (λ (t : Bool). pick t (w n) 0) (h n (lt-suc_self n)))

module _ (e : Graph) (edges vertices : ℕ) (f : Fine vertices edges e.ends) where
  -- the search from v reaches exactly the vertices joined to v
  pub region_joined : (v q : ℕ) → v < vertices → (reached_yet (searched e edges vertices v) q ≡ true → Joined e edges v q) × (Joined e edges v q → reached_yet (searched e edges vertices v) q ≡ true)
  region_joined v q h =
      let s = found e edges vertices v f h in
      ((λ t. (_, s.path q t)), λ j. s.all q j.0 j.1)

  -- to be reached by the search is to have the same label
  pub region_label : (l : List ℕ) → Labelled e edges vertices l → (v q : ℕ) → v < vertices → q < vertices → eqb (label_of l q) (label_of l v) ≡ reached_yet (searched e edges vertices v) q
  region_label l w v q hv hq =
      bool_same _ _ (λ t. (region_joined v q hv).1 (w.same v q hv hq (sym (eqb-true _ _ t)))) (λ t. eq-eqb _ _ (sym (w.joined v q hv hq ((region_joined v q hv).0 t))))

  -- the weight at a vertex's label is the sum over exactly the vertices that are joined to it
  pub region_weight : (l : List ℕ) → Labelled e edges vertices l → (w : ℕ → ℕ) (v : ℕ) → v < vertices → weight_of l w vertices (label_of l v) ≡ total (reached_yet (searched e edges vertices v)) w vertices
  unfolding weight_of
  region_weight l k w v h = total_same _ _ w vertices (λ q hq. region_label l k v q h hq)
