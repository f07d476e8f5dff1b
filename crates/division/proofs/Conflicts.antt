-- No valid division agrees with the list of a conflict.
use Prim.Native.Nat.{ℕ, ◌<◌, ◌≤◌, zero-le}
use native.Mathlib.Omega.{arith}
use mathlib.Core.Path.{◌≡◌, refl}
use mathlib.Core.Bool.{Bool, true, false, not, ◌&&◌}
use mathlib.Core.List.{List, [], ◌∷◌}
use borrow.Author.Tests.{ltb-true}
use Rattle.base.specs.Lists.{Every, none, more, tab, total}
use Rattle.base.proofs.Loop.{pick_ind}
use Rattle.base.proofs.Lists.{every_map, every_left, every_right, every_head}
use Rattle.sat.specs.Literal.{Holds}
use Rattle.graph.proofs.Joined.{joined_trans, joined_sym}
use Rattle.division.specs.Plan.{Plan, Proper, left, right}
use Rattle.division.specs.Regions.{within, weight_from}
use Rattle.division.specs.State.{State, potential, Same, Near, decided_weight, potential_weight}
use Rattle.division.specs.Reasons.{connected_path, decided_region, potential_region}
use Rattle.division.specs.Conflicts.{spans, sum_lower, greedy, Conflict, conflict_list}
use Rattle.division.specs.Together.{mark, graph_of, region_weight, Computed}
use Rattle.division.specs.Noted.{Bounded}
use Rattle.division.specs.Proposed.{Spaced, IsConflict, is_disconnected, is_crossing, is_over, is_under, is_crowded, is_apart}
use Rattle.division.proofs.Sums.{total_parts}
use Rattle.division.proofs.Walk.{joined_below, within_joined, joined_within, weight_same}
use Rattle.division.proofs.Sound.{path_sound, decided_weight_lem, potential_from, potential_weight_lem, low_sound, high_sound}

module _ (d : Plan) (s : State) (σ : ℕ → Bool) (k : Proper d) (b : Bounded d s) (y : Computed d σ) where
  abbrev st : List ℕ
  st = tab (mark d σ) d.edges

  disconnected_none : (g : ℕ) → g < d.edges → Same d s (left d g) (right d g) → Every (Holds σ) (conflict_list d s (Conflict.disconnected_inside g)) → ⊥
  unfolding conflict_list
  disconnected_none g h j x =
      y.apart g h (every_head (every_right (connected_path d s (left d g) (right d g)) _ x))
      (path_sound d σ k s (left d g) (k.fine.within g h).a (right d g) j (every_left _ _ x))

  crossing_none : (v : ℕ) → v < d.vertices → s.upper v < s.lower v →
      Every (Holds σ) (conflict_list d s (Conflict.crossing v)) → ⊥
  unfolding conflict_list
  crossing_none v h l x =
      let m = low_sound d σ k y v h (b.low v h) (every_left _ _ x) in
      let n = high_sound d σ k y v h (b.high v h) (every_right (s.lower_lit v) _ x) in
      omega arith

  over_none : (v : ℕ) → v < d.vertices → s.upper v < decided_weight d s v → Every (Holds σ) (conflict_list d s (Conflict.over v)) → ⊥
  unfolding conflict_list
  over_none v h l x =
      omega (arith, decided_weight_lem d σ k s v h (every_left _ _ x), high_sound d σ k y v h (b.high v h) (every_right (decided_region d s v) _ x))

  under_none : (v : ℕ) → v < d.vertices → potential_weight d s v < s.lower v → Every (Holds σ) (conflict_list d s (Conflict.under v)) → ⊥
  unfolding conflict_list
  under_none v h l x =
      omega (arith, potential_weight_lem d σ k s v h (every_left _ _ x), low_sound d σ k y v h (b.low v h) (every_right (potential_region d s v) _ x))

  apart_none : (p q : ℕ) → p < d.vertices → q < d.vertices → Same d s p q → s.upper q < s.lower p → Every (Holds σ) (conflict_list d s (Conflict.apart p q)) → ⊥
  unfolding conflict_list
  apart_none p q hp hq j l x =
      let z = every_right (connected_path d s p q) _ x in
      let e : region_weight d σ p ≡ region_weight d σ q = weight_same d k st false p q hp (path_sound d σ k s p hp q j (every_left _ _ x)) in
      omega (arith, low_sound d σ k y p hp (b.low p hp) (every_left _ _ z), high_sound d σ k y q hq (b.high q hq) (every_right (s.lower_lit p) _ z))

  -- the region of p lies in c
  abbrev Inside : (ℕ → Bool) → ℕ → Type 0
  Inside c p = (i : ℕ) → i < d.vertices → within d (graph_of d σ) p i ≡ true → c i ≡ true

  -- regions of different weight share no vertex
  disjoint : (p q i : ℕ) → p < d.vertices → q < d.vertices → region_weight d σ p < region_weight d σ q → within d (graph_of d σ) p i ≡ true → within d (graph_of d σ) q i ≡ true → ⊥
  disjoint p q i hp hq l x z =
      let j = joined_trans (within_joined d k st false p hp i x) (joined_sym (within_joined d k st false q hq i z)) in
      omega (arith, weight_same d k st false p q hp j)

  rest : (c : ℕ → Bool) (p q : ℕ) → p < d.vertices → q < d.vertices → region_weight d σ p < region_weight d σ q → Inside c q → Inside (λ i. c i && not (within d (graph_of d σ) p i)) q
  rest c p q hp hq l n i hi x = go (within d (graph_of d σ) p i) refl
    where
      go : (t : Bool) → within d (graph_of d σ) p i ≡ t → (c i && not t) ≡ true
      go true e = absurd (disjoint p q i hp hq l e x)
      go false e = rw (n i hi x) refl

  -- lower and upper bound of the first of a list
  abbrev First : ℕ → List ℕ → Type 0
  First p ps = (s.lower p ≤ region_weight d σ p) × (region_weight d σ p ≤ s.upper p) × Every (Holds σ) (spans s ps)

  first : (p : ℕ) (ps : List ℕ) → p < d.vertices → Every (Holds σ) (spans s (p ∷ ps)) → First p ps
  unfolding spans
  first p ps hp x =
      let z = every_right (s.lower_lit p) _ x in
      (low_sound d σ k y p hp (b.low p hp) (every_left _ _ x), high_sound d σ k y p hp (b.high p hp) (every_left _ _ z), every_right (s.upper_lit p) _ z)

  rests : (c : ℕ → Bool) (p : ℕ) (ps : List ℕ) → p < d.vertices → Every (λ q. q < d.vertices) ps → Every (Inside c) ps → Every (λ q. s.upper p < s.lower q) ps →
      region_weight d σ p ≤ s.upper p → Every (Holds σ) (spans s ps) → Every (Inside (λ i. c i && not (within d (graph_of d σ) p i))) ps
  rests c p [] hp h n a l x = none
  rests c p (q ∷ ps) hp (more hq h) (more m n) (more u a) l x =
      let f = first q ps hq x in
      more (rest c p q hp hq (omega (arith, f.0)) m) (rests c p ps hp h n a l f.2)

  crowd : (c : ℕ → Bool) (ps : List ℕ) → Every (λ q. q < d.vertices) ps → Every (Inside c) ps → Spaced s ps → Every (Holds σ) (spans s ps) → sum_lower s ps ≤ total c d.weight d.vertices
  unfolding sum_lower weight_from
  crowd c [] h n a x = zero-le
  crowd c (p ∷ ps) (more hp h) (more m n) (Spaced.more u a) x =
      let f = first p ps hp x in
      omega (arith, f.0, total_parts (within d (graph_of d σ) p) c d.weight d.vertices m, crowd (λ i. c i && not (within d (graph_of d σ) p i)) ps h (rests c p ps hp h n u f.1 f.2) a f.2)

  crowded_none : (r : ℕ) (ps : List ℕ) → r < d.vertices → Every (Near d s r) ps → Spaced s ps → potential_weight d s r < sum_lower s ps →
      Every (Holds σ) (conflict_list d s (Conflict.crowded r ps)) → ⊥
  unfolding conflict_list weight_from
  crowded_none r ps h n a l x =
      let z = every_left (potential_region d s r) _ x in
      omega (
        arith,
        crowd (within d (potential d s) r) ps (every_map (λ q j. joined_below k.fine h j) n)
            (every_map (λ q j i hi w. joined_within d k s.edge_state true r h i (potential_from d σ k s r h z q i j (within_joined d k st false q (joined_below k.fine h j) i w))) n)
            a (every_right (potential_region d s r) _ x),
      )

  -- no valid division in which the list of a conflict holds
  pub conflict_sound : (c : Conflict) → IsConflict d s c → Every (Holds σ) (conflict_list d s c) → ⊥
  conflict_sound c (is_disconnected g h t j) x = disconnected_none g h j x
  conflict_sound c (is_crossing v h l) x = crossing_none v h l x
  conflict_sound c (is_over v h l) x = over_none v h l x
  conflict_sound c (is_under v h l) x = under_none v h l x
  conflict_sound c (is_crowded r ps h n m a l) x = crowded_none r ps h n a l x
  conflict_sound c (is_apart p q hp hq j l) x = apart_none p q hp hq j l x

-- the ranges that are taken lie apart, and past where it began
pub record Taken (s : State) (cur : ℕ) (ps : List ℕ) : Type 0 where
  pub past : Every (λ q. cur < s.lower q) ps
  pub spaced : Spaced s ps

take_one : (s : State) (cur p : ℕ) (ps : List ℕ) → s.lower p ≤ s.upper p → cur < s.lower p → Taken s (s.upper p) ps → Taken s cur (p ∷ ps)
take_one s cur p ps h l t = record { past = more l (up t.past); spaced = Spaced.more t.past t.spaced }
  where
    up : {l : List ℕ} → Every (λ q. s.upper p < s.lower q) l → Every (λ q. cur < s.lower q) l
    up none = none
    up (more {x = q} e r) = let z : cur < s.lower q = omega arith in more z (up r)

pub greedy_taken : (s : State) (cur : ℕ) (ps : List ℕ) → Every (λ p. s.lower p ≤ s.upper p) ps → Taken s cur (greedy s cur ps)
unfolding greedy
greedy_taken s cur [] x = record { past = none; spaced = Spaced.none }
greedy_taken s cur (p ∷ ps) (more h x) =
    pick_ind (Taken s cur) _ _ _ (λ t. take_one s cur p _ h (ltb-true _ _ t) (greedy_taken s _ ps x)) (λ t. greedy_taken s cur ps x)

-- and they are of the list
pub greedy_every : {P : ℕ → Type 0} (s : State) (cur : ℕ) (ps : List ℕ) → Every P ps → Every P (greedy s cur ps)
unfolding greedy
greedy_every s cur [] x = none
greedy_every {P} s cur (p ∷ ps) (more h x) = pick_ind (Every P) _ _ _ (λ t. more h (greedy_every s _ ps x)) (λ t. greedy_every s cur ps x)
