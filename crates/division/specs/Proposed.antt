-- What the analysis proposes, each rule with all that it tests and what an earlier test has made sure of; what its conflicts are.
use Rattle.std.specs.Prelude.{ℕ, ◌+◌, ◌<◌, ◌≤◌, suc, get_or, Bool, true, List, [], ◌∷◌, ◌⊎◌, ◌≡◌}
use Rattle.base.specs.Iter.{pick}
use Rattle.base.specs.Lists.{Every}
use Rattle.sat.specs.Literal.{negate, Holds}
use Rattle.division.specs.Analysis.{Verdict, going, conflict, zero_size, Out, Each}
use Rattle.division.specs.Conflicts.{Conflict, disconnected_inside, crossing, over, under, crowded, apart, sum_lower}
use Rattle.division.specs.Plan.{Plan, left, right}
use Rattle.division.specs.Reasons.{Reason, connected_lit, edge_in_same_group, edge_between_different_groups}
use Rattle.division.specs.Reasons.{too_large_if_regions_are_merged, region_already_large, region_already_small}
use Rattle.division.specs.Reasons.{inconsistent_bounds_if_regions_are_merged, bound_propagation_within_region}
use Rattle.division.specs.Reasons.{adjacent_same_size_regions}
use Rattle.division.specs.State.{State, Same, Near, decided_weight, potential_weight, state_of}

-- entry j is below w and the next one is not
pub record Between (d : Plan) (v j w : ℕ) : Type 0 where
  pub next : suc j < d.domain_len v
  pub above : d.domain v j < w
  pub below : w ≤ d.domain v (suc j)

-- in state s a rule proposes the literal for the reason
pub data Proposes (d : Plan) (s : State) : ℕ → Reason → Type 0 where
  rule_in_group : (g : ℕ) → g < d.edges → state_of s g ≡ 0 → Same d s (left d g) (right d g) → Proposes d s (connected_lit d g) (edge_in_same_group g)
  rule_between : (h g : ℕ) (flip : Bool) → h < d.edges → g < d.edges → state_of s h ≡ 1 → state_of s g ≡ 0 →
      Same d s (left d h) (pick flip (right d g) (left d g)) → Same d s (right d h) (pick flip (left d g) (right d g)) →
      Proposes d s (d.edge_lit g) (edge_between_different_groups h g flip)
  rule_too_large : (g w : ℕ) → g < d.edges → w < d.vertices → state_of s g ≡ 0 → (Same d s (left d g) (right d g) → ⊥) →
      Same d s (left d g) w ⊎ Same d s (right d g) w → s.upper w < decided_weight d s (left d g) + decided_weight d s (right d g) →
      Proposes d s (d.edge_lit g) (too_large_if_regions_are_merged g (s.upper_lit w))
  rule_large : (v j : ℕ) → v < d.vertices → decided_weight d s v ≤ s.upper v → s.lower v < decided_weight d s v →
      Between d v j (decided_weight d s v) → Proposes d s (d.dom_lit v j) (region_already_large v)
  rule_small : (v j : ℕ) → v < d.vertices → s.lower v ≤ potential_weight d s v → potential_weight d s v < s.upper v →
      Between d v j (suc (potential_weight d s v)) → Proposes d s (negate (d.dom_lit v j)) (region_already_small v)
  rule_mismatch : (g a b : ℕ) (flip : Bool) → g < d.edges → a < d.vertices → b < d.vertices → state_of s g ≡ 0 →
      Same d s (pick flip (right d g) (left d g)) a → Same d s (pick flip (left d g) (right d g)) b → s.upper a < s.lower b →
      Proposes d s (d.edge_lit g) (inconsistent_bounds_if_regions_are_merged g a b flip)
  rule_spread_low : (k u j : ℕ) → k < d.vertices → u < d.vertices → Same d s k u →
      s.lower k ≤ s.upper u → s.lower u < s.lower k → Between d u j (s.lower k) →
      Proposes d s (d.dom_lit u j) (bound_propagation_within_region k u (s.lower_lit k))
  rule_spread_high : (k u j : ℕ) → k < d.vertices → u < d.vertices → Same d s k u →
      s.lower u ≤ s.upper k → s.upper k < s.upper u → Between d u j (suc (s.upper k)) →
      Proposes d s (negate (d.dom_lit u j)) (bound_propagation_within_region k u (s.upper_lit k))
  rule_same_size : (a la ua b lb ub u g : ℕ) → d.disallow_adjacent_same_size_regions ≡ true → g < d.edges → state_of s g ≡ 0 →
      a < d.vertices → la < d.vertices → ua < d.vertices →
      b < d.vertices → lb < d.vertices → ub < d.vertices → u < d.vertices →
      Proposes d s (d.edge_lit g) (adjacent_same_size_regions a (s.lower_lit la) (s.upper_lit ua) b (s.lower_lit lb) (s.upper_lit ub) u)

-- every variable of the plan stands, and σ is a division in which all that stands holds
pub record Full (d : Plan) (Stands : ℕ → Type 0) (σ : ℕ → Bool) : Type 0 where
  pub edge : (g : ℕ) → g < d.edges → Stands (d.edge_lit g) ⊎ Stands (negate (d.edge_lit g))
  pub domain : (v j : ℕ) → v < d.vertices → suc j < d.domain_len v → Stands (d.dom_lit v j) ⊎ Stands (negate (d.dom_lit v j))
  pub holds : (l : ℕ) → Stands l → Holds σ l

-- the ranges of the vertices lie apart, rising
pub data Spaced (s : State) : List ℕ → Type 0 where
  none : Spaced s []
  more : {p : ℕ} {ps : List ℕ} → Every (λ q. s.upper p < s.lower q) ps → Spaced s ps → Spaced s (p ∷ ps)

-- the analysis found this conflict in state s
pub data IsConflict (d : Plan) (s : State) : Conflict → Type 0 where
  is_disconnected : (g : ℕ) → g < d.edges → get_or s.edge_state g 0 ≡ 1 → Same d s (left d g) (right d g) → IsConflict d s (disconnected_inside g)
  is_crossing : (v : ℕ) → v < d.vertices → s.upper v < s.lower v → IsConflict d s (crossing v)
  is_over : (v : ℕ) → v < d.vertices → s.upper v < decided_weight d s v → IsConflict d s (over v)
  is_under : (v : ℕ) → v < d.vertices → potential_weight d s v < s.lower v → IsConflict d s (under v)
  is_crowded : (r : ℕ) (ps : List ℕ) → r < d.vertices → Every (Near d s r) ps → Every (λ p. s.lower p ≤ s.upper p) ps →
      Spaced s ps → potential_weight d s r < sum_lower s ps → IsConflict d s (crowded r ps)
  is_apart : (a b : ℕ) → a < d.vertices → b < d.vertices → Same d s a b → s.upper b < s.lower a → IsConflict d s (apart a b)

-- a verdict is right: a conflict is one, and refusal 13 comes only with the option
pub data Right (d : Plan) (s : State) : Verdict → Type 0 where
  right_going : Right d s going
  right_conflict : (c : Conflict) → IsConflict d s c → Right d s (conflict c)
  right_zero : d.disallow_adjacent_same_size_regions ≡ true → Right d s zero_size

-- each proposal follows its rule, and a conflict is one
pub record Good (d : Plan) (s : State) (o : Out) : Type 0 where
  pub props : Each (Proposes d s) o.props
  pub right : Right d s o.verdict
