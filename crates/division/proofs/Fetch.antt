-- A reason that was recorded, and is fetched where at least as much stands: its list is sound, and all of it stands.
use Prim.Native.Nat.{ℕ, suc, pred, ◌+◌, ◌<◌, ◌≤◌, zero-le}
use native.Mathlib.Omega.{arith}
use mathlib.Core.Path.{◌≡◌, sym, ◌∙◌}
use mathlib.Core.Logic.{◌⊎◌, ⊎_elim}
use mathlib.Core.Bool.{Bool}
use mathlib.Core.List.{List, [], ◌∷◌, ◌++◌}
use lib.ListN.{get_or}
use Rattle.base.specs.Iter.{pick}
use Rattle.base.specs.Lists.{Every, none, more}
use Rattle.base.proofs.Loop.{eq_or_not, pick_ind}
use Rattle.base.proofs.Lists.{every_append, every_map, every_only}
use Rattle.sat.specs.Literal.{negate, Holds}
use Rattle.division.specs.Plan.{Plain, Plan, Proper, left, right}
use Rattle.division.specs.State.{State, Same}
use Rattle.division.specs.Reasons.{connected_path, decided_region, Reason, edge_in_same_group, edge_between_different_groups, too_large_if_regions_are_merged, region_already_large, region_already_small, inconsistent_bounds_if_regions_are_merged, bound_propagation_within_region, adjacent_same_size_regions, list_of}
use Rattle.division.specs.Analysis.{place}
use Rattle.division.specs.Together.{Computed}
use Rattle.division.specs.Noted.{Lower, Upper, Bounded, Noted, Later}
use Rattle.division.specs.Explained.{Explains, by_in_group, by_between, by_too_large, by_large, by_small, by_mismatch, by_spread_low, by_spread_high, by_same_size}
use Rattle.division.specs.Proposed.{Between, Proposes, rule_in_group, rule_between, rule_too_large, rule_large, rule_small, rule_mismatch, rule_spread_low, rule_spread_high, rule_same_size}
use Rattle.division.proofs.Sound.{rising_le}
use Rattle.division.proofs.Explain.{explain_sound, explain_later, false_sound, same_later}
use Rattle.division.proofs.Stands.{path_stands, decided_stands, potential_stands}
use Rattle.division.proofs.Exact.{low_entry, high_entry}
use Rattle.division.proofs.Rules.{proposed_explained, place_between}

module _ (d : Plan) (k : Proper d) (S T : ℕ → Type 0) (s t : State) (n : Noted d S s) (m : Noted d T t) (sub : (l : ℕ) → S l → T l) where
  kept : (g : ℕ) → g < d.edges → (get_or s.edge_state g 0 ≡ 0 → ⊥) → get_or t.edge_state g 0 ≡ get_or s.edge_state g 0
  kept g h z =
      ⊎_elim (λ (e : get_or s.edge_state g 0 ≡ 1). (m.disconnected g h).1 (sub _ ((n.disconnected g h).0 e)) ∙ sym e)
      (λ (e : get_or s.edge_state g 0 ≡ 1 → ⊥).
      let e2 : get_or s.edge_state g 0 ≡ 2 = omega (arith, n.known g h) in
      (m.connected g h).1 (sub _ ((n.connected g h).0 e2)) ∙ sym e2)
      (eq_or_not (get_or s.edge_state g 0) 1)

  low_up : (v : ℕ) → v < d.vertices → {b : ℕ} {ls : List ℕ} → Lower d v b ls → Every S ls → b ≤ t.lower v
  low_up v h (Lower.free a e q) x = omega arith
  low_up v h (Lower.least a e q) x = let (i, c, w) = low_entry d v a (m.bounded.low v h) in omega (arith, rising_le d k v h 0 i zero-le c)
  low_up v h (Lower.lit j a e q) x = rw e (m.raised v j h a (sub _ (every_only q x)))

  high_down : (v : ℕ) → v < d.vertices → {b : ℕ} {ls : List ℕ} → Upper d v b ls → Every S ls → t.upper v ≤ b
  high_down v h {b} (Upper.free a e q) x = free_down (m.bounded.high v h)
    where
      free_down : {c : ℕ} {ls : List ℕ} → Upper d v c ls → c ≤ b
      free_down (Upper.free u w p) = omega arith
      free_down (Upper.last i u w p) = absurd (omega arith)
      free_down (Upper.lit j u w p) = absurd (omega arith)
  high_down v h (Upper.last i a e q) x = let (j, c, w) = high_entry d v (omega arith) (m.bounded.high v h) in omega (arith, rising_le d k v h j i (omega arith) (omega arith))
  high_down v h (Upper.lit j a e q) x = rw e (m.cut v j h a (sub _ (every_only q x)))

  -- where more stands, more is noted
  pub noted_later : Later d s t
  noted_later = record {
    kept = kept;
    up = λ v h. low_up v h (n.bounded.low v h) (n.low_stands v h);
    down = λ v h. high_down v h (n.bounded.high v h) (n.high_stands v h);
  }

  pub reason_explained : (l : ℕ) (r : Reason) → Proposes d s l r → Explains d t l r
  reason_explained l r p = explain_later d s t k noted_later l r (proposed_explained d s k n.bounded l r p)

  -- what was proposed then follows from the list that its reason gives now
  pub reason_sound : Plain d → (l : ℕ) (r : Reason) → Proposes d s l r → (σ : ℕ → Bool) → Computed d σ → Every (Holds σ) (list_of d t r) → Holds σ l
  reason_sound pl l r p σ y x = explain_sound d t σ k y pl m.bounded l r (explain_later d s t k noted_later l r (proposed_explained d s k n.bounded l r p)) x

  pub false_reason_sound : Plain d → (l : ℕ) (r : Reason) → Proposes d s l r → (σ : ℕ → Bool) → Computed d σ → Every (Holds σ) (list_of d t r ++ (negate l ∷ [])) → ⊥
  false_reason_sound pl l r p σ y x = false_sound d t σ k y pl m.bounded l r (explain_later d s t k noted_later l r (proposed_explained d s k n.bounded l r p)) x

  same_now : {p q : ℕ} → Same d s p q → Same d t p q
  same_now j = same_later d s t k noted_later j

  path_now : (p q : ℕ) → p < d.vertices → Same d s p q → Every T (connected_path d t p q)
  path_now p q h j = path_stands d T t k m p q h (same_now j)

  ends_below : (g : ℕ) (f : Bool) → g < d.edges → pick f (right d g) (left d g) < d.vertices
  ends_below g f h = pick_ind (λ x. x < d.vertices) f _ _ (λ _. (k.fine.within g h).b) (λ _. (k.fine.within g h).a)

  ends_below' : (g : ℕ) (f : Bool) → g < d.edges → pick f (left d g) (right d g) < d.vertices
  ends_below' g f h = pick_ind (λ x. x < d.vertices) f _ _ (λ _. (k.fine.within g h).a) (λ _. (k.fine.within g h).b)

  -- and all of that list stands now
  pub reason_stands : (l : ℕ) (r : Reason) → Proposes d s l r → Every T (list_of d t r)
  unfolding list_of
  reason_stands l r (rule_in_group g h z a) = path_now _ _ (k.fine.within g h).a a
  reason_stands l r (rule_between i g f hi h zi z a b) =
      every_append (connected_path d t (left d i) (pick f (right d g) (left d g))) _ (path_now _ _ (k.fine.within i hi).a a)
      (every_append (connected_path d t (right d i) (pick f (left d g) (right d g))) _ (path_now _ _ (k.fine.within i hi).b b) (more (sub _ ((n.disconnected i hi).0 zi)) none))
  reason_stands l r (rule_too_large g w h hw z ne a i) =
      every_append (decided_region d t (left d g)) _ (decided_stands d T t k m _ (k.fine.within g h).a)
      (every_append (decided_region d t (right d g)) _ (decided_stands d T t k m _ (k.fine.within g h).b) (every_map sub (n.high_stands w hw)))
  reason_stands l r (rule_large v j h u a b) = decided_stands d T t k m v h
  reason_stands l r (rule_small v j h u a b) = potential_stands d T t k m v
  reason_stands l r (rule_mismatch g p q f h hp hq z a b i) =
      every_append (connected_path d t (pick f (right d g) (left d g)) p) _ (path_now _ _ (ends_below g f h) a)
      (every_append (connected_path d t (pick f (left d g) (right d g)) q) _ (path_now _ _ (ends_below' g f h) b) (every_append (t.upper_lit p) _ (m.high_stands p hp) (m.low_stands q hq)))
  reason_stands l r (rule_spread_low p u j hp hu a i c b) = every_append (connected_path d t p u) _ (path_now p u hp a) (every_map sub (n.low_stands p hp))
  reason_stands l r (rule_spread_high p u j hp hu a i c b) = every_append (connected_path d t p u) _ (path_now p u hp a) (every_map sub (n.high_stands p hp))
  reason_stands l r (rule_same_size a la ua b lb ub u g o h z ha hla hua hb hlb hub hu) =
      every_append (decided_region d t a) _ (decided_stands d T t k m a ha)
      (every_append (decided_region d t b) _ (decided_stands d T t k m b hb)
      (every_append (decided_region d t u) _ (decided_stands d T t k m u hu)
      (every_append (s.lower_lit la) _ (every_map sub (n.low_stands la hla))
      (every_append (s.upper_lit ua) _ (every_map sub (n.high_stands ua hua))
      (every_append (s.lower_lit lb) _ (every_map sub (n.low_stands lb hlb)) (every_map sub (n.high_stands ub hub)))))))

-- A reason by paths alone is sound in any state in which its paths are there, whatever was undone since it was recorded.
abbrev pub Present : Plan → State → Reason → Type 0
Present d t (edge_in_same_group g) = Same d t (left d g) (right d g)
Present d t (edge_between_different_groups h g f) = Same d t (left d h) (pick f (right d g) (left d g)) × Same d t (right d h) (pick f (left d g) (right d g))
Present d t (too_large_if_regions_are_merged g ls) = ⊥
Present d t (region_already_large v) = ⊥
Present d t (region_already_small v) = ⊥
Present d t (inconsistent_bounds_if_regions_are_merged g a b f) = ⊥
Present d t (bound_propagation_within_region p u ls) = Same d t p u
Present d t (adjacent_same_size_regions a la ua b lb ub u) = ⊥

present_explained : (d : Plan) (s t : State) (l : ℕ) (r : Reason) → Explains d s l r → Present d t r → Explains d t l r
present_explained d s t l r (by_in_group g h e a) x = by_in_group g h e x
present_explained d s t l r (by_between i g f hi h e a b) x = by_between i g f hi h e x.0 x.1
present_explained d s t l r (by_too_large g ls w b h e hw a u m) x = absurd x
present_explained d s t l r (by_large v j h m e a) x = absurd x
present_explained d s t l r (by_small v j h m e a) x = absurd x
present_explained d s t l r (by_mismatch g p q f h e hp hq a b m) x = absurd x
present_explained d s t l r (by_spread_low p u ls b j hp hu m e a w i) x = by_spread_low p u ls b j hp hu m e x w i
present_explained d s t l r (by_spread_high p u ls b j hp hu m e a w i) x = by_spread_high p u ls b j hp hu m e x w i
present_explained d s t l r (by_same_size a la ua b lb ub u g o h e ha hb hu xa ya xb yb) x = absurd x

pub present_sound : (d : Plan) (k : Proper d) → Plain d → (s t : State) → Bounded d s → Bounded d t → (l : ℕ) (r : Reason) → Proposes d s l r → Present d t r →
    (σ : ℕ → Bool) → Computed d σ → Every (Holds σ) (list_of d t r) → Holds σ l
present_sound d k pl s t b c l r p x σ y z = explain_sound d t σ k y pl c l r (present_explained d s t l r (proposed_explained d s k b l r p) x) z

-- The place of a new bound is never out of range: w is above the lower bound, and not above the upper one.
pub place_low : (d : Plan) (k : Proper d) (s : State) (b : Bounded d s) (v w : ℕ) → v < d.vertices → 0 < d.domain_len v → s.lower v < w → w ≤ s.upper v →
    (0 < place (d.domain v) w (d.domain_len v)) × Between d v (pred (place (d.domain v) w (d.domain_len v))) w
place_low d k s b v w h z l u =
    let (i, hi, e) = low_entry d v z (b.low v h) in
    let (j, hj, c) = high_entry d v z (b.high v h) in
    place_between d k v w i j h hi (omega arith) hj (omega arith)

-- and the same for an upper one, w: entries up to w are counted
pub place_high : (d : Plan) (k : Proper d) (s : State) (b : Bounded d s) (v w : ℕ) → v < d.vertices → 0 < d.domain_len v → s.lower v ≤ w → w < s.upper v →
    (0 < place (d.domain v) (suc w) (d.domain_len v)) × Between d v (pred (place (d.domain v) (suc w) (d.domain_len v))) (suc w)
place_high d k s b v w h z l u = place_low d k s b v (suc w) h z (omega arith) u
