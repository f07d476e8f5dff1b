-- Where every variable stands, the analysis finds no conflict exactly where the division is valid.
use Prim.Native.Nat.{ℕ, suc, ◌<◌, ◌≤◌}
use native.Mathlib.Omega.{arith}
use native.Mathlib.Nat.{le_antisymm}
use mathlib.Core.Path.{◌≡◌, ap}
use mathlib.Core.Logic.{◌⊎◌, ⊎_elim, ◌↔◌}
use mathlib.Core.Bool.{Bool, true, false, not}
use mathlib.Core.List.{List}
use lib.ListN.{get_or}
use borrow.Author.Tests.{eqb-true, eqb-false, eq-eqb, ne_eqb, not-true}
use Rattle.base.specs.Lists.{tab}
use Rattle.base.proofs.Tests.{le_or_lt}
use Rattle.base.proofs.Lists.{every_map}
use Rattle.sat.proofs.Literal.{negate_fails}
use Rattle.graph.specs.Search.{passes, is_open}
use Rattle.division.specs.Plan.{Plan, Proper, left, right}
use Rattle.division.specs.State.{State, decided, potential, Same, decided_weight, potential_weight}
use Rattle.division.specs.Conflicts.{Conflict}
use Rattle.division.specs.Together.{mark, graph_of, Together, region_weight, Computed}
use Rattle.division.specs.Noted.{Lower, Upper, Noted}
use Rattle.division.specs.Proposed.{IsConflict, is_disconnected, is_over, is_under, Full}
use Rattle.division.proofs.Walk.{joined_map, weight_le}
use Rattle.division.proofs.Sound.{connected_fails, fails_connected, rising_le, low_sound, high_sound}
use Rattle.division.proofs.Conflicts.{conflict_sound}
use Rattle.division.proofs.Stands.{conflict_stands}

-- a bound of a vertex with a domain is one of its entries
pub low_entry : (d : Plan) (v : ℕ) {b : ℕ} {ls : List ℕ} → 0 < d.domain_len v → Lower d v b ls → (i : ℕ) × (i < d.domain_len v) × (b ≡ d.domain v i)
low_entry d v h (Lower.free a e q) = absurd (omega arith)
low_entry d v h (Lower.least a e q) = (0, a, e)
low_entry d v h (Lower.lit j a e q) = (suc j, a, e)

pub high_entry : (d : Plan) (v : ℕ) {b : ℕ} {ls : List ℕ} → 0 < d.domain_len v → Upper d v b ls → (i : ℕ) × (i < d.domain_len v) × (b ≡ d.domain v i)
high_entry d v h (Upper.free a e q) = absurd (omega arith)
high_entry d v h (Upper.last n a e q) = (n, omega arith, e)
high_entry d v h (Upper.lit j a e q) = (j, omega arith, e)

module _ (d : Plan) (Stands : ℕ → Type 0) (s : State) (σ : ℕ → Bool) (k : Proper d) (n : Noted d Stands s) (f : Full d Stands σ) where
  abbrev st : List ℕ
  st = tab (mark d σ) d.edges

  -- the state's connected edges are those of the division
  connected_to : (g : ℕ) → g < d.edges → is_open (decided d s) g ≡ true → is_open (graph_of d σ) g ≡ true
  unfolding passes
  connected_to g h o = fails_connected d σ g h (negate_fails σ (d.edge_lit g) (f.holds _ ((n.connected g h).0 (eqb-true _ _ o))))

  -- an edge that is connected in the division is not disconnected
  connected_near : (g : ℕ) → g < d.edges → is_open (graph_of d σ) g ≡ true → is_open (potential d s) g ≡ true
  unfolding passes
  connected_near g h o = ap not (ne_eqb _ _ (λ (c : get_or s.edge_state g 0 ≡ 1). connected_fails d σ g h o (f.holds _ ((n.disconnected g h).0 c))))

  -- and no edge is undecided
  near_connected : (g : ℕ) → g < d.edges → is_open (potential d s) g ≡ true → is_open (decided d s) g ≡ true
  unfolding passes
  near_connected g h o = ⊎_elim (λ t. absurd (eqb-false _ _ (not-true _ o) ((n.disconnected g h).1 t))) (λ t. eq-eqb _ _ ((n.connected g h).1 t)) (f.edge g h)

  to_same : {p q : ℕ} → Together d σ p q → Same d s p q
  to_same j = joined_map (λ g h o. near_connected g h (connected_near g h o)) j

  pub decided_is : (v : ℕ) → v < d.vertices → decided_weight d s v ≡ region_weight d σ v
  decided_is v h = le_antisymm (weight_le d k s.edge_state st false false v v h h (λ q j. joined_map connected_to j)) (weight_le d k st s.edge_state false false v v h h (λ q j. to_same j))

  pub potential_is : (v : ℕ) → v < d.vertices → potential_weight d s v ≡ region_weight d σ v
  potential_is v h =
      le_antisymm (weight_le d k s.edge_state st true false v v h h (λ q j. joined_map (λ g h o. connected_to g h (near_connected g h o)) j))
      (weight_le d k st s.edge_state false true v v h h (λ q j. joined_map connected_near j))

  -- the bounds of a vertex have met
  met : (v : ℕ) → v < d.vertices → 0 < d.domain_len v → s.lower v ≤ s.upper v → s.lower v ≡ s.upper v
  met v h z l =
      let (i, a, e) = low_entry d v z (n.bounded.low v h) in
      let (j, b, c) = high_entry d v z (n.bounded.high v h) in
      ⊎_elim (λ (w : j ≤ i). let r = rising_le d k v h j i w a in omega arith)
      (λ (w : i < j).
      let m : suc i < d.domain_len v = omega arith in
      let r = k.rising v i h m in
      ⊎_elim (λ t. let x = n.raised v i h m t in absurd (omega arith)) (λ t. let x = n.cut v i h m t in omega arith) (f.domain v i h m))
      (le_or_lt j i)

  -- what steps 1 to 3 test, of every edge and every vertex with a domain
  pub record Passed : Type 0 where
    pub edges : (g : ℕ) → g < d.edges → get_or s.edge_state g 0 ≡ 1 → Same d s (left d g) (right d g) → ⊥
    pub high : (v : ℕ) → v < d.vertices → 0 < d.domain_len v → decided_weight d s v ≤ s.upper v
    pub low : (v : ℕ) → v < d.vertices → 0 < d.domain_len v → s.lower v ≤ potential_weight d s v

  pub passed_valid : ((v : ℕ) → v < d.vertices → s.lower v ≤ s.upper v) → Passed → Computed d σ
  passed_valid c p = record {
    apart = λ g h t j. ⊎_elim (λ a. p.edges g h ((n.disconnected g h).1 a) (to_same j)) (λ a. negate_fails σ (d.edge_lit g) (f.holds _ a) t) (f.edge g h);
    inside = λ v h z. let (i, a, e) = low_entry d v z (n.bounded.low v h) in
        (i, a, omega (arith, met v h z (c v h), p.high v h z, p.low v h z, decided_is v h, potential_is v h));
    meant = λ v j h m. (
      λ t. ⊎_elim (λ a. omega (arith, n.raised v j h m a, p.low v h (omega arith), potential_is v h)) (λ a. absurd (negate_fails σ (d.dom_lit v j) (f.holds _ a) t)) (f.domain v j h m),
      λ l. ⊎_elim (λ a. f.holds _ a) (λ a. absurd (omega (arith, n.cut v j h m a, k.rising v j h m, p.high v h (omega arith), decided_is v h))) (f.domain v j h m),
    );
  }

  pub valid_passed : Computed d σ → Passed
  valid_passed y = record {
    edges = λ g h t j. y.apart g h (f.holds _ ((n.disconnected g h).0 t)) (joined_map connected_to j);
    high = λ v h z. omega (arith, decided_is v h, high_sound d σ k y v h (n.bounded.high v h) (every_map f.holds (n.high_stands v h)));
    low = λ v h z. omega (arith, potential_is v h, low_sound d σ k y v h (n.bounded.low v h) (every_map f.holds (n.low_stands v h)));
  }

  -- no conflict of any kind, exactly where the division is valid
  pub exact : ((v : ℕ) → v < d.vertices → s.lower v ≤ s.upper v) → ((c : Conflict) → IsConflict d s c → ⊥) ↔ Computed d σ
  exact c = (
    λ no. passed_valid c (record {
      edges = λ g h t j. no _ (is_disconnected g h t j);
      high = λ v h z. ⊎_elim (λ l. l) (λ l. absurd (no _ (is_over v h l))) (le_or_lt _ _);
      low = λ v h z. ⊎_elim (λ l. l) (λ l. absurd (no _ (is_under v h l))) (le_or_lt _ _);
    }),
    λ y x w. conflict_sound d s σ k n.bounded y x w (every_map f.holds (conflict_stands d Stands s k n x w)),
  )
