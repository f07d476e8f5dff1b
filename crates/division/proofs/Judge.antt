-- Each turn of each loop of the analysis.
use Prim.Native.Nat.{ℕ, suc, pred, ◌+◌, ◌<◌, ◌≤◌, min, zero-le}
use native.Mathlib.Omega.{arith}
use mathlib.Core.Path.{◌≡◌, refl, sym, ◌∙◌, ap, subst}
use mathlib.Core.Logic.{◌⊎◌, inl, inr, ⊎_elim}
use mathlib.Core.Bool.{Bool, true, false, true≢false, not, ◌&&◌}
use mathlib.Core.List.{List}
use lib.Dec.{eqb, ltb}
use borrow.Author.Tests.{eq-eqb, eqb-true, eqb-false, ltb-true, ltb-false, lt-ltb, not-true}
use Rattle.base.specs.Iter.{pick}
use Rattle.base.proofs.Loop.{pick_ind}
use Rattle.base.proofs.Tests.{and_left, and_right, and_rest, or_cases, le_or_lt}
use Rattle.base.proofs.Lists.{every_map}
use Rattle.division.specs.Plan.{touches, across, Plan, Proper, left, right}
use Rattle.division.specs.Regions.{lowest, within, weight_from}
use Rattle.division.specs.State.{state_of, crossed_at, State, Same, decided, decided_weight, potential_weight}
use Rattle.division.specs.Reasons.{edge_between_different_groups, too_large_if_regions_are_merged, inconsistent_bounds_if_regions_are_merged}
use Rattle.division.specs.Conflicts.{sum_lower, greedy, disconnected_inside, crossing, over, under}
use Rattle.division.specs.Analysis.{guarded, same_size, same_size_reason, parted, parts_at, place, View, Out, lid, rid, inside, matches, loose, matched, uncrossed, overfull, raises, merges, cuts, crowds, meets, parts, spreads_low, spreads_high, spreads, best, forks}
use Rattle.division.specs.Noted.{Lower, Bounded}
use Rattle.division.specs.Proposed.{is_disconnected, is_crossing, is_over, is_under, is_crowded, is_apart, Between, Proposes, rule_in_group, rule_between, rule_too_large, rule_large, rule_small, rule_mismatch, rule_spread_low, rule_spread_high, Good, rule_same_size}
use Rattle.division.proofs.Shown.{Held, Shows}
use Rattle.division.proofs.Sums.{total_most}
use Rattle.division.proofs.Conflicts.{greedy_taken, greedy_every}
use Rattle.division.proofs.Exact.{high_entry}
use Rattle.division.proofs.Fetch.{place_low, place_high}
use Rattle.division.proofs.Views.{crossed_known, crossed_over}
use Rattle.division.proofs.Phases.{going_still, zeroed, phase0, Inv, add, keep, clash, lowest_true, best_has, best_max, best_min}

module _ (d : Plan) (s : State) (w : View) (k : Proper d) (b : Bounded d s) (y : Shows d s w) where
  ha : (g : ℕ) → g < d.edges → left d g < d.vertices
  ha g h = (k.fine.within g h).a

  hb : (g : ℕ) → g < d.edges → right d g < d.vertices
  hb g h = (k.fine.within g h).b

  -- 1.
  pub inside_turn : (g : ℕ) (o : Out) → g < d.edges → Good d s o → Inv d s (state_of s g ≡ 1 → Same d s (left d g) (right d g) → ⊥) (inside d s w g o)
  unfolding inside
  inside_turn g o h x =
      pick_ind (Inv d s _) _ _ _
      (λ t. let j = (y.same (left d g) (right d g) (ha g h) (hb g h)).0 (eqb-true _ _ t) in
      pick_ind (Inv d s _) _ _ _ (λ u. clash d s (disconnected_inside g) (is_disconnected g h (eqb-true _ _ u) j) x)
      (λ u. pick_ind (Inv d s _) _ _ _ (λ v. keep d s (add d s _ _ (rule_in_group g h (eqb-true _ _ v) j) x) (λ e. absurd (eqb-false _ _ u e))) (λ v. keep d s x (λ e. absurd (eqb-false _ _ u e)))))
      (λ t. keep d s x (λ e j. eqb-false _ _ t ((y.same (left d g) (right d g) (ha g h) (hb g h)).1 j)))

  loose_apart : (g : ℕ) → loose d s w g ≡ true → lid d s w g ≡ rid d s w g → ⊥
  unfolding loose
  loose_apart g e = eqb-false _ _ (not-true _ (and_left _ _ e))

  loose_free : (g : ℕ) → loose d s w g ≡ true → state_of s g ≡ 0
  unfolding loose
  loose_free g e = eqb-true _ _ (and_right (not (eqb (lid d s w g) (rid d s w g))) _ e)

  matches_disconnected : (g h : ℕ) → matches d s w g h ≡ true → state_of s h ≡ 1
  unfolding matches
  matches_disconnected g h e = eqb-true _ _ (and_left _ _ e)

  matches_ends : (g h : ℕ) → matches d s w g h ≡ true → ((lid d s w h ≡ lid d s w g) × (rid d s w h ≡ rid d s w g)) ⊎ ((lid d s w h ≡ rid d s w g) × (rid d s w h ≡ lid d s w g))
  unfolding matches
  matches_ends g h e =
      ⊎_elim (λ x. inl (eqb-true _ _ (and_left _ _ x), eqb-true _ _ (and_right (eqb (lid d s w h) (lid d s w g)) _ x)))
      (λ x. inr (eqb-true _ _ (and_left _ _ x), eqb-true _ _ (and_right (eqb (lid d s w h) (rid d s w g)) _ x)))
      (or_cases _ _ (and_right (eqb (state_of s h) 1) _ e))

  between_turn : (g h : ℕ) → g < d.edges → h < d.edges → loose d s w g ≡ true → matches d s w g h ≡ true →
      (f : Bool) → eqb (lid d s w g) (rid d s w h) ≡ f → Proposes d s (d.edge_lit g) (edge_between_different_groups h g f)
  unfolding pick
  between_turn g h hg hh l m true e =
      ⊎_elim (λ x. absurd (loose_apart g l (eqb-true _ _ e ∙ x.1)))
      (λ x. rule_between h g true hh hg (matches_disconnected g h m) (loose_free g l) ((y.same _ _ (ha h hh) (hb g hg)).0 x.0) ((y.same _ _ (hb h hh) (ha g hg)).0 x.1))
      (matches_ends g h m)
  between_turn g h hg hh l m false e =
      ⊎_elim (λ x. rule_between h g false hh hg (matches_disconnected g h m) (loose_free g l) ((y.same _ _ (ha h hh) (ha g hg)).0 x.0) ((y.same _ _ (hb h hh) (hb g hg)).0 x.1))
      (λ x. absurd (eqb-false _ _ e (sym x.1)))
      (matches_ends g h m)

  pub matched_turn : (g : ℕ) (o : Out) → g < d.edges → Good d s o → Good d s (matched d s w g o)
  unfolding matched
  matched_turn g o hg x =
      pick_ind (Good d s) _ _ _
      (λ t. let h : lowest (matches d s w g) d.edges < d.edges = ltb-true _ _ (and_right (loose d s w g) _ t) in
      add d s _ _ (between_turn g _ hg h (and_left _ _ t) (lowest_true (matches d s w g) d.edges h) _ refl) x)
      (λ t. x)

  -- 2.
  -- where no vertex is told, none crosses
  none_crossed : ltb (crossed_at d s) d.vertices ≡ false → (v : ℕ) → v < d.vertices → s.lower v ≤ s.upper v
  none_crossed t v h =
      ⊎_elim (λ l. l) (λ l. absurd (true≢false (sym (lt-ltb _ _ (crossed_known d s v h l)) ∙ t))) (le_or_lt _ _)

  pub uncrossed_turn : {F : Type 0} (o : Out) → Inv d s F o → Inv d s (F × ((v : ℕ) → v < d.vertices → s.lower v ≤ s.upper v))
      (guarded (uncrossed d s w) (crossed_at d s) o)
  unfolding uncrossed guarded
  uncrossed_turn o i =
      pick_ind (Inv d s _) _ _ _
      (λ _. pick_ind (Inv d s _) _ _ _
      (λ t. let h = ltb-true (crossed_at d s) d.vertices t in
      clash d s (crossing (crossed_at d s)) (is_crossing _ h (crossed_over d s h)) i.good)
      (λ t. record { good = i.good; fact = λ e. (i.fact e, none_crossed t) }))
      (λ f. record { good = i.good; fact = λ e. absurd (true≢false (sym (going_still _ e) ∙ f)) })

  pub overfull_turn : (v : ℕ) (o : Out) → v < d.vertices → Good d s o → Inv d s (decided_weight d s v ≤ s.upper v) (overfull d s w v o)
  unfolding overfull
  overfull_turn v o h x =
      let e = y.weight v h in
      pick_ind (Inv d s _) _ _ _ (λ t. clash d s (over v) (is_over v h (omega (arith, ltb-true (s.upper v) (w.dw (w.did v)) t))) x) (λ t. keep d s x (omega (arith, ltb-false (s.upper v) (w.dw (w.did v)) t)))

  pub raises_turn : (v : ℕ) (o : Out) → v < d.vertices → decided_weight d s v ≤ s.upper v → Good d s o → Good d s (raises d s w v o)
  unfolding raises
  raises_turn v o h u x = rw (y.weight v h)
      (pick_ind (Good d s) _ _ _
      (λ t. let z : 0 < d.domain_len v = ltb-true _ _ (and_left _ _ t) in
      let l : s.lower v < decided_weight d s v = ltb-true _ _ (and_right (ltb 0 (d.domain_len v)) _ t) in
      add d s _ _ (rule_large v _ h u l (place_low d k s b v (decided_weight d s v) h z l u).1) x)
      (λ t. x))

  weight_most : (v : ℕ) → decided_weight d s v ≤ 64000000
  unfolding weight_from
  weight_most v = omega (arith, total_most (within d (decided d s) v) d.weight 1000000 d.vertices k.light, k.fine.vertices)

  low_most : (v : ℕ) → v < d.vertices → s.lower v ≤ 1000000
  low_most v h = go (b.low v h)
    where
      go : {c : ℕ} {ls : List ℕ} → Lower d v c ls → c ≤ 1000000
      go (Lower.free u e q) = rw e zero-le
      go (Lower.least u e q) = rw e (k.entries v 0 h u)
      go (Lower.lit j u e q) = rw e (k.entries v (suc j) h u)

  high_most : (v : ℕ) → v < d.vertices → 0 < d.domain_len v → s.upper v ≤ 1000000
  high_most v h z = let (i, c, e) = high_entry d v z (b.high v h) in rw e (k.entries v i h c)

  -- the region that u is in has its least upper bound at a vertex of it
  same_held : (c : ℕ → ℕ) (u i x : ℕ) → u < d.vertices → Held d w c u i x → Same d s u i
  same_held c u i x h a = (y.same u i h a.vertex).0 (sym a.here)

  too_large : (g : ℕ) → g < d.edges → loose d s w g ≡ true → min (w.up (lid d s w g)) (w.up (rid d s w g)) < w.dw (lid d s w g) + w.dw (rid d s w g) →
      (f : Bool) → ltb (w.up (lid d s w g)) (w.up (rid d s w g)) ≡ f →
      Proposes d s (d.edge_lit g) (too_large_if_regions_are_merged g (s.upper_lit (pick f (w.up_at (lid d s w g)) (w.up_at (rid d s w g)))))
  unfolding pick
  too_large g h l m true e =
      let el = y.weight (left d g) (ha g h) in
      let er = y.weight (right d g) (hb g h) in
      let q = ltb-true (w.up (lid d s w g)) (w.up (rid d s w g)) e in
      let a = y.up_at (left d g) (ha g h) (omega (arith, weight_most (left d g), weight_most (right d g))) in
      rule_too_large g _ h a.vertex (loose_free g l) (λ j. loose_apart g l ((y.same _ _ (ha g h) (hb g h)).1 j)) (inl (same_held s.upper (left d g) _ _ (ha g h) a)) (omega (arith, a.is))
  too_large g h l m false e =
      let el = y.weight (left d g) (ha g h) in
      let er = y.weight (right d g) (hb g h) in
      let q = ltb-false (w.up (lid d s w g)) (w.up (rid d s w g)) e in
      let a = y.up_at (right d g) (hb g h) (omega (arith, weight_most (left d g), weight_most (right d g))) in
      rule_too_large g _ h a.vertex (loose_free g l) (λ j. loose_apart g l ((y.same _ _ (ha g h) (hb g h)).1 j)) (inr (same_held s.upper (right d g) _ _ (hb g h) a)) (omega (arith, a.is))

  pub merges_turn : (g : ℕ) (o : Out) → g < d.edges → Good d s o → Good d s (merges d s w g o)
  unfolding merges
  merges_turn g o h x =
      pick_ind (Good d s) _ _ _ (λ t. add d s _ _ (too_large g h (and_left _ _ t) (ltb-true _ _ (and_right (loose d s w g) _ t)) _ refl) x) (λ t. x)

  -- 3.
  pub cuts_turn : (v : ℕ) (o : Out) → v < d.vertices → Good d s o → Inv d s (0 < d.domain_len v → s.lower v ≤ potential_weight d s v) (cuts d s w v o)
  unfolding cuts
  cuts_turn v o h x = rw (y.most v h)
      (pick_ind (Inv d s _) _ _ _
      (λ z. pick_ind (Inv d s _) _ _ _ (λ t. clash d s (under v) (is_under v h (ltb-true _ _ t)) x)
      (λ t. let l = ltb-false (potential_weight d s v) (s.lower v) t in
      pick_ind (Inv d s _) _ _ _ (λ u. let m = ltb-true (potential_weight d s v) (s.upper v) u in
      keep d s (add d s _ _ (rule_small v _ h l m (place_high d k s b v (potential_weight d s v) h (ltb-true _ _ z) l m).1) x) (λ _. l))
      (λ u. keep d s x (λ _. l))))
      (λ z. keep d s x (λ a. absurd (omega (arith, ltb-false 0 (d.domain_len v) z)))))

  pub crowds_turn : (r : ℕ) (o : Out) → r < d.vertices → ((v : ℕ) → v < d.vertices → s.lower v ≤ s.upper v) → Good d s o → Good d s (crowds d s w r o)
  unfolding crowds
  crowds_turn r o h c x =
      (pick_ind (Inv d s (Unit {0})) _ _ _
      (λ (t : (eqb (w.pid r) r && ltb (w.pw r) (sum_lower s (greedy s 0 (w.cells r)))) ≡ true).
      let f : w.pid r ≡ r = eqb-true _ _ (and_left _ _ t) in
      let m : w.pw r ≡ potential_weight d s r = ap w.pw (sym f) ∙ y.most r h in
      clash d s _ (is_crowded r _ h
      (greedy_every s 0 (w.cells r) (every_map (λ q e. (y.near r q h e.vertex).0 (f ∙ sym e.here)) (y.cells r)))
      (greedy_every s 0 (w.cells r) (every_map (λ q e. c q e.vertex) (y.cells r)))
      (greedy_taken s 0 (w.cells r) (every_map (λ q e. c q e.vertex) (y.cells r))).spaced
      (omega (arith, ltb-true (w.pw r) (sum_lower s (greedy s 0 (w.cells r))) (and_right (eqb (w.pid r) r) _ t)))) x)
      (λ t. keep d s x tt)).good

  -- 4.
  pub meets_turn : (r : ℕ) (o : Out) → r < d.vertices → Good d s o →
      Inv d s ((p q : ℕ) → p < d.vertices → q < d.vertices → w.did r ≡ r → w.did p ≡ r → w.did q ≡ r → s.lower p ≤ s.upper q) (meets d s w r o)
  unfolding meets
  meets_turn r o h x =
      let i = best (λ c b. ltb (s.lower b) (s.lower c)) r (w.members r) in
      let j = best (λ c b. ltb (s.upper c) (s.upper b)) r (w.members r) in
      let hi : w.did r ≡ r → (i < d.vertices) × (w.did i ≡ r) =
      λ f. best_has (λ p. (p < d.vertices) × (w.did p ≡ r)) (λ c b. ltb (s.lower b) (s.lower c)) r (w.members r) (h, f) (y.only r h f) in
      let hj : w.did r ≡ r → (j < d.vertices) × (w.did j ≡ r) =
      λ f. best_has (λ p. (p < d.vertices) × (w.did p ≡ r)) (λ c b. ltb (s.upper c) (s.upper b)) r (w.members r) (h, f) (y.only r h f) in
      pick_ind (Inv d s _) _ _ _
      (λ t. let f : w.did r ≡ r = eqb-true _ _ (and_left _ _ t) in
      clash d s _ (is_apart i j (hi f).0 (hj f).0 ((y.same i j (hi f).0 (hj f).0).0 ((hi f).1 ∙ sym (hj f).1)) (ltb-true _ _ (and_right (eqb (w.did r) r) _ t))) x)
      (λ t. keep d s x (λ p q hp hq f ep eq.
      let l = ltb-false (s.upper j) (s.lower i) (and_rest (eqb (w.did r) r) _ (eq-eqb _ _ f) t) in
      omega (arith, best_max s.lower r (w.members r) p (rw ep at (y.whole p hp)), best_min s.upper r (w.members r) q (rw eq at (y.whole q hq)))))

  mismatched : (g : ℕ) → g < d.edges → loose d s w g ≡ true → w.up (rid d s w g) < w.low (lid d s w g) →
      Proposes d s (d.edge_lit g) (inconsistent_bounds_if_regions_are_merged g (w.up_at (rid d s w g)) (w.low_at (lid d s w g)) true)
  unfolding pick
  mismatched g h l m =
      let p = y.low_at (left d g) (ha g h) (omega arith) in
      let q = y.up_at (right d g) (hb g h) (omega (arith, low_most _ p.vertex, p.is)) in
      rule_mismatch g _ _ true h q.vertex p.vertex (loose_free g l) (same_held s.upper (right d g) _ _ (hb g h) q) (same_held s.lower (left d g) _ _ (ha g h) p) (omega (arith, p.is, q.is))

  mismatched' : (g : ℕ) → g < d.edges → loose d s w g ≡ true → w.up (lid d s w g) < w.low (rid d s w g) →
      Proposes d s (d.edge_lit g) (inconsistent_bounds_if_regions_are_merged g (w.up_at (lid d s w g)) (w.low_at (rid d s w g)) false)
  unfolding pick
  mismatched' g h l m =
      let p = y.low_at (right d g) (hb g h) (omega arith) in
      let q = y.up_at (left d g) (ha g h) (omega (arith, low_most _ p.vertex, p.is)) in
      rule_mismatch g _ _ false h q.vertex p.vertex (loose_free g l) (same_held s.upper (left d g) _ _ (ha g h) q) (same_held s.lower (right d g) _ _ (hb g h) p) (omega (arith, p.is, q.is))

  pub parts_turn : (g : ℕ) (o : Out) → g < d.edges → Good d s o → Good d s (parts d s w g o)
  unfolding parts
  parts_turn g o h x =
      let z = pick_ind (Good d s) (loose d s w g && ltb (w.up (rid d s w g)) (w.low (lid d s w g))) _ o
      (λ t. add d s _ _ (mismatched g h (and_left _ _ t) (ltb-true _ _ (and_right (loose d s w g) _ t))) x) (λ t. x) in
      pick_ind (Good d s) _ _ _ (λ t. add d s _ _ (mismatched' g h (and_left _ _ t) (ltb-true _ _ (and_right (loose d s w g) _ t))) z) (λ t. z)

  -- the bounds of each region meet
  module _ (meet : (p q : ℕ) → p < d.vertices → q < d.vertices → w.did p ≡ w.did q → s.lower p ≤ s.upper q) where
    spreads_low_lem : (v : ℕ) (o : Out) → v < d.vertices → Good d s o → Good d s (spreads_low d s w v o)
    unfolding spreads_low
    spreads_low_lem v o h x =
        pick_ind (Good d s) _ _ _
        (λ t. let z : 0 < d.domain_len v = ltb-true _ _ (and_left _ _ t) in
        let l : s.lower v < w.low (w.did v) = ltb-true _ _ (and_right (ltb 0 (d.domain_len v)) _ t) in
        let p = y.low_at v h (omega arith) in
        let m = meet _ v p.vertex h p.here in
        let e : s.lower (w.low_at (w.did v)) ≡ w.low (w.did v) = p.is in
        let c = (place_low d k s b v (w.low (w.did v)) h z l (omega arith)).1 in
        add d s _ _ (rule_spread_low _ v _ p.vertex h ((y.same _ v p.vertex h).0 p.here) m (omega arith) (subst (λ n. Between d v (pred (place (d.domain v) (w.low (w.did v)) (d.domain_len v))) n) (sym e) c)) x)
        (λ t. x)

    spreads_high_lem : (v : ℕ) (o : Out) → v < d.vertices → Good d s o → Good d s (spreads_high d s w v o)
    unfolding spreads_high
    spreads_high_lem v o h x =
        pick_ind (Good d s) _ _ _
        (λ t. let z : 0 < d.domain_len v = ltb-true _ _ (and_left _ _ t) in
        let l : w.up (w.did v) < s.upper v = ltb-true _ _ (and_right (ltb 0 (d.domain_len v)) _ t) in
        let p = y.up_at v h (omega (arith, high_most v h z)) in
        let m = meet v _ h p.vertex (sym p.here) in
        let e : s.upper (w.up_at (w.did v)) ≡ w.up (w.did v) = p.is in
        let c = (place_high d k s b v (w.up (w.did v)) h z (omega arith) l).1 in
        add d s _ _ (rule_spread_high _ v _ p.vertex h ((y.same _ v p.vertex h).0 p.here) m (omega arith) (subst (λ n. Between d v (pred (place (d.domain v) (suc (w.up (w.did v))) (d.domain_len v))) (suc n)) (sym e) c)) x)
        (λ t. x)

    pub spreads_turn : (v : ℕ) (o : Out) → v < d.vertices → Good d s o → Good d s (spreads d s w v o)
    unfolding spreads
    spreads_turn v o h x = spreads_high_lem v _ h (spreads_low_lem v o h x)

  -- 5.
  touched : (u g : ℕ) → g < d.edges → across d u g < d.vertices
  unfolding across
  touched u g h = pick_ind (λ x. x < d.vertices) _ _ _ (λ _. hb g h) (λ _. ha g h)

  -- what the test of step 5 says of the two edges and the two regions
  record Sized (u g h : ℕ) : Type 0 where
    free_g : state_of s g ≡ 0
    free_h : state_of s h ≡ 0
    fixed : w.low (w.did (across d u g)) ≡ w.up (w.did (across d u g))
    fixed' : w.low (w.did (across d u h)) ≡ w.up (w.did (across d u h))
    one : w.low (w.did (across d u g)) ≡ w.low (w.did (across d u h))

  sized : (u g h : ℕ) → same_size d s w u g h ≡ true → Sized u g h
  unfolding same_size forks
  sized u g h e =
      let a = w.did (across d u g) in
      let b = w.did (across d u h) in
      let x = and_left (loose d s w g && loose d s w h) _ (and_right (touches d u g && touches d u h) _ (and_left (forks d s w u g h) _ e)) in
      let y = and_right (forks d s w u g h) _ e in
      let z = and_left (eqb (w.low a) (w.up a) && eqb (w.low b) (w.up b)) _ y in
      record {
        free_g = loose_free g (and_left (loose d s w g) _ x);
        free_h = loose_free h (and_right (loose d s w g) _ x);
        fixed = eqb-true _ _ (and_left (eqb (w.low a) (w.up a)) _ z);
        fixed' = eqb-true _ _ (and_right (eqb (w.low a) (w.up a)) _ z);
        one = eqb-true _ _ (and_left (eqb (w.low a) (w.low b)) _ (and_right (eqb (w.low a) (w.up a) && eqb (w.low b) (w.up b)) _ y));
      }

  module _ (on : d.disallow_adjacent_same_size_regions ≡ true) where
    same_size_lem : (u g h e : ℕ) → u < d.vertices → g < d.edges → h < d.edges → e < d.edges → state_of s e ≡ 0 → Sized u g h → (w.low (w.did (across d u g)) ≡ 0 → ⊥) →
        Proposes d s (d.edge_lit e) (same_size_reason d s w u g h)
    unfolding same_size_reason
    same_size_lem u g h e hu hg hh he z x nz =
        let p = across d u g in
        let q = across d u h in
        let i = x.one in
        let f = x.fixed in
        let f' = x.fixed' in
        let lp = y.low_at p (touched u g hg) (omega arith) in
        let lq = y.low_at q (touched u h hh) (omega arith) in
        let mp = low_most _ lp.vertex in
        let ep = lp.is in
        let up = y.up_at p (touched u g hg) (omega arith) in
        let uq = y.up_at q (touched u h hh) (omega arith) in
        rule_same_size p _ _ q _ _ u e on he z (touched u g hg) lp.vertex up.vertex (touched u h hh) lq.vertex uq.vertex hu

    parted_turn : (u g h : ℕ) (o : Out) → u < d.vertices → g < d.edges → h < d.edges → Good d s o → Good d s (parted d s w u g h o)
    unfolding parted
    parted_turn u g h o hu hg hh x =
        pick_ind (Good d s) _ _ _
        (λ t. let z = sized u g h t in
        pick_ind (Good d s) _ _ _ (λ n. (zeroed d s {G = Unit {0}} on x).good)
        (λ n. add d s _ _ (same_size_lem u g h h hu hg hh hh z.free_h z (eqb-false _ _ n)) (add d s _ _ (same_size_lem u g h g hu hg hh hg z.free_g z (eqb-false _ _ n)) x)))
        (λ t. x)

    pub parts_at_turn : (u : ℕ) (o : Out) → u < d.vertices → Good d s o → Good d s (parts_at d s w u o)
    unfolding parts_at
    parts_at_turn u o hu x =
        (phase0 d s (Unit {0}) _ d.edges o (keep d s x tt)
        (λ g o hg _ z. (phase0 d s (Unit {0}) (parted d s w u g) g o (keep d s z tt) (λ h o hh _ z. parted_turn u g h o hu hg (omega arith) z)).good)).good
