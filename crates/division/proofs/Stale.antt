-- A reason that is fetched where less stands than when it was recorded can be unsound: the plan of case G, literal 2
-- recorded where 5 stood, and fetched after 5 was undone. Also a proper plan with a valid division.
use native.Mathlib.Nat.{lt-suc_self}
use Prim.Native.Nat.{ℕ, zero, suc, ◌<◌, ◌≤◌, zero-le}
use native.Mathlib.Omega.{arith}
use mathlib.Core.Path.{◌≡◌, refl, sym, ◌∙◌}
use mathlib.Core.Logic.{◌↔◌}
use mathlib.Core.Bool.{Bool, true, false, true≢false, false≢true}
use mathlib.Core.List.{List, [], ◌∷◌}
use lib.Dec.{eqb}
use lib.ListN.{get_or}
use Rattle.base.specs.Iter.{pick}
use Rattle.base.specs.Lists.{Every, none}
use Rattle.sat.specs.Literal.{value, Holds}
use Rattle.division.specs.Plan.{Proper, left, right}
use Rattle.division.specs.Division.{Valid}
use Rattle.division.specs.Regions.{within}
use Rattle.division.specs.Reasons.{list_of, region_already_large}
use Rattle.division.specs.Analysis.{inside}
use Rattle.division.specs.Noting.{note_all}
use Rattle.division.specs.Runs.{analysis}
use Rattle.division.proofs.Divided.{computed_valid}
use Rattle.division.specs.Together.{mark, graph_of, Together, region_weight, Computed}
use Rattle.division.proofs.Walk.{joined_within}
use Rattle.division.specs.Plans.{plan_with, plan, plan_g}
use Rattle.division.proofs.Computes.{computes}

abbrev domains_g : List (List ℕ)
domains_g = (3 ∷ 7 ∷ []) ∷ (4 ∷ 7 ∷ []) ∷ []

-- the edge disconnected, both sizes at their least
pub disconnected_g : ℕ → Bool
disconnected_g v = eqb v 2

pub proper_g : Proper plan_g
unfolding plan_with plan plan_g
proper_g = record {
  fine = record {
    vertices = omega arith;
    fits = omega arith;
    within = λ g h. inn g h;
  };
  light = λ v h. weights v;
  entries = λ v j h. entries v j;
  rising = λ v j h m. rising v j (suc j) (lt-suc_self j) m;
}
  where
    inn : (g : ℕ) → g < 1 → Rattle.graph.specs.Bounds.Within 2 ((0 ∷ 1 ∷ []) ∷ []) g
    inn zero h = record { a = omega arith; b = omega arith }
    inn (suc g) h = absurd (omega arith)

    weights : (v : ℕ) → get_or (3 ∷ 4 ∷ []) v 0 ≤ 1000000
    weights zero = omega arith
    weights (suc zero) = omega arith
    weights (suc (suc v)) = zero-le

    entries : (v j : ℕ) → j < lib.ListN.length (get_or domains_g v []) → get_or (get_or domains_g v []) j 0 ≤ 1000000
    entries zero zero h = omega arith
    entries zero (suc zero) h = omega arith
    entries zero (suc (suc j)) h = zero-le
    entries (suc zero) zero h = omega arith
    entries (suc zero) (suc zero) h = omega arith
    entries (suc zero) (suc (suc j)) h = zero-le
    entries (suc (suc v)) j h = zero-le

    rising : (v i j : ℕ) → i < j → j < lib.ListN.length (get_or domains_g v []) →
        get_or (get_or domains_g v []) i 0 < get_or (get_or domains_g v []) j 0
    rising v i zero l h = absurd (omega arith)
    rising zero zero (suc zero) l h = omega arith
    rising zero (suc i) (suc zero) l h = absurd (omega arith)
    rising zero i (suc (suc j)) l h = absurd (omega arith)
    rising (suc zero) zero (suc zero) l h = omega arith
    rising (suc zero) (suc i) (suc zero) l h = absurd (omega arith)
    rising (suc zero) i (suc (suc j)) l h = absurd (omega arith)
    rising (suc (suc v)) i (suc j) l h = absurd (omega arith)

apart_g : within plan_g (graph_of plan_g disconnected_g) 0 1 ≡ false
unfolding plan_with plan plan_g computes disconnected_g mark value
apart_g = refl

weight0 : region_weight plan_g disconnected_g 0 ≡ 3
unfolding plan_with plan plan_g computes disconnected_g mark value
weight0 = refl

weight1 : region_weight plan_g disconnected_g 1 ≡ 4
unfolding plan_with plan plan_g computes disconnected_g mark value
weight1 = refl

fails0 : Holds disconnected_g 0 → ⊥
unfolding disconnected_g value pick
fails0 e = false≢true e

fails2 : Holds disconnected_g 2 → ⊥
unfolding disconnected_g value pick
fails2 e = false≢true e

computed_g : Computed plan_g disconnected_g
unfolding plan_with plan plan_g
computed_g = record { apart = apart; inside = inside'; meant = meant }
  where
    apart : (g : ℕ) → g < 1 → Holds disconnected_g (plan_g.edge_lit g) → Together plan_g disconnected_g (left plan_g g) (right plan_g g) → ⊥
    apart zero h t j = true≢false (sym (joined_within plan_g proper_g _ false 0 (omega arith) 1 j) ∙ apart_g)
    apart (suc g) h t j = absurd (omega arith)

    inside' : (v : ℕ) → v < 2 → 0 < plan_g.domain_len v → (j : ℕ) × (j < plan_g.domain_len v) × (region_weight plan_g disconnected_g v ≡ plan_g.domain v j)
    inside' zero h z = (0, z, weight0)
    inside' (suc zero) h z = (0, z, weight1)
    inside' (suc (suc v)) h z = absurd (omega arith)

    meant : (v j : ℕ) → v < 2 → suc j < plan_g.domain_len v → Holds disconnected_g (plan_g.dom_lit v j) ↔ (plan_g.domain v (suc j) ≤ region_weight plan_g disconnected_g v)
    meant zero zero h m = (λ t. absurd (fails0 t), λ l. absurd (omega (arith, weight0)))
    meant zero (suc j) h m = absurd (omega arith)
    meant (suc zero) zero h m = (λ t. absurd (fails2 t), λ l. absurd (omega (arith, weight1)))
    meant (suc zero) (suc j) h m = absurd (omega arith)
    meant (suc (suc v)) j h m = absurd (omega arith)

pub valid_g : Valid plan_g disconnected_g
valid_g = computed_valid plan_g disconnected_g proper_g computed_g

-- where 5 stands, literal 2 is proposed for this reason
recorded : get_or (analysis plan_g (5 ∷ [])).props 1 (record { lit = 0; why = region_already_large 0 }) ≡ record { lit = 2; why = region_already_large 1 }
unfolding plan_with plan plan_g computes
recorded = refl

-- its list is empty where nothing stands
emptied : list_of plan_g (note_all plan_g []) (region_already_large 1) ≡ []
unfolding plan_with plan plan_g computes
emptied = refl

-- and yet a valid division fails the literal
pub stale : (σ : ℕ → Bool) × Valid plan_g σ × Every (Holds σ) (list_of plan_g (note_all plan_g []) (region_already_large 1)) × (Holds σ 2 → ⊥)
stale = (disconnected_g, valid_g, rw emptied none, fails2)
