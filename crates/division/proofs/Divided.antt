-- The search finds document 01's regions and their weights: a division is valid exactly where the computed one is.
use Prim.Native.Nat.{ℕ, suc, ◌<◌, ◌≤◌}
use native.Mathlib.Nat.{le_antisymm}
use mathlib.Core.Path.{◌≡◌, refl, ◌∙◌, subst}
use mathlib.Core.Logic.{◌⊎◌, inl, inr, ⊎_elim, ◌↔◌}
use mathlib.Core.Bool.{Bool, false}
use mathlib.Core.List.{List, [], ◌∷◌}
use Rattle.base.specs.Lists.{tab}
use Rattle.sat.specs.Literal.{Holds}
use Rattle.graph.specs.Paths.{Chain, here, there}
use Rattle.division.specs.Plan.{Plan, Proper}
use Rattle.division.specs.Division.{Region, further, RegionWeight, Valid}
use Rattle.division.specs.Regions.{within, weight_from}
use Rattle.division.specs.Together.{mark, graph_of, Together, region_weight, Computed}
use Rattle.division.proofs.Sums.{total_le}
use Rattle.division.proofs.Walk.{within_joined, joined_within}
use Rattle.division.proofs.Sound.{connected_fails, fails_connected}

module _ (d : Plan) (σ : ℕ → Bool) where
  -- document 01's region is what chains of connected edges lead to
  pub region_together : {p q : ℕ} → Region d σ p q → Together d σ p q
  region_together Region.here = ([], here)
  region_together (further g r h c j) =
      let x = region_together r in
      (g ∷ x.0, there g x.1 (record { known = h; passed = fails_connected d σ g h c; ends = ⊎_elim (λ y. inl y) (λ y. inr (y.1, y.0)) j }))

  pub together_region : {p q : ℕ} → Together d σ p q → Region d σ p q
  together_region {p} t = go t.1
    where
      go : {l : List ℕ} {q : ℕ} → Chain (graph_of d σ) d.edges p l q → Region d σ p q
      go here = Region.here
      go (there g c l) = further g (go c) l.known (connected_fails d σ g l.known l.passed) (⊎_elim (λ y. inl y) (λ y. inr (y.1, y.0)) l.ends)

  module _ (k : Proper d) where
    -- a region has a weight, the computed one
    pub weight_is : (v : ℕ) → v < d.vertices → RegionWeight d σ v (region_weight d σ v)
    unfolding weight_from
    weight_is v h = record {
      member = within d (graph_of d σ) v;
      exactly = λ q hq. (
        λ t. together_region (within_joined d k (tab (mark d σ) d.edges) false v h q t),
        λ r. joined_within d k (tab (mark d σ) d.edges) false v h q (region_together r),
      );
      sum = refl;
    }

    -- and no other
    pub weight_only : (v w : ℕ) → v < d.vertices → RegionWeight d σ v w → w ≡ region_weight d σ v
    unfolding weight_from
    weight_only v w h r =
        r.sum ∙ le_antisymm (total_le _ _ _ _ (λ q hq t. joined_within d k (tab (mark d σ) d.edges) false v h q (region_together ((r.exactly q hq).0 t))))
        (total_le _ _ _ _ (λ q hq t. (r.exactly q hq).1 (together_region (within_joined d k (tab (mark d σ) d.edges) false v h q t))))

    pub valid_computed : Valid d σ → Computed d σ
    valid_computed y = record {
      apart = λ g h t j. y.apart g h t (together_region j);
      inside = λ v h z. subst (λ w. (j : ℕ) × (j < d.domain_len v) × (w ≡ d.domain v j)) (weight_only v _ h (y.weighs v h)) (y.inside v h z);
      meant = λ v j h m. subst (λ w. Holds σ (d.dom_lit v j) ↔ (d.domain v (suc j) ≤ w)) (weight_only v _ h (y.weighs v h)) (y.meant v j h m);
    }

    pub computed_valid : Computed d σ → Valid d σ
    computed_valid y = record {
      apart = λ g h t j. y.apart g h t (region_together j);
      weight = region_weight d σ;
      weighs = weight_is;
      inside = y.inside;
      meant = y.meant;
    }
