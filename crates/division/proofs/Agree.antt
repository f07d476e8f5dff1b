-- For the layer below: states and views that agree on the plan's vertices and edges are analyzed alike.
use Prim.Native.Nat.{ℕ, zero, suc, pred, ◌+◌, ◌<◌, min}
use native.Mathlib.Omega.{arith}
use native.Mathlib.Nat.{le_step, lt-suc_self}
use mathlib.Core.Path.{◌≡◌, refl, sym, ◌∙◌, ap, ap₂}
use mathlib.Core.Bool.{Bool, true, false, not, ◌&&◌, ◌||◌, true≢false, false≢true}
use mathlib.Core.List.{List, [], ◌∷◌}
use lib.Dec.{eqb, ltb}
use borrow.Author.Tests.{ltb-true}
use Rattle.base.specs.Iter.{iter, pick}
use Rattle.base.specs.Lists.{Every, none, more}
use Rattle.base.proofs.Lists.{every_map}
use Rattle.base.proofs.Loop.{pick_ind, iter_ind}
use Rattle.base.proofs.Tests.{and_right}
use Rattle.sat.specs.Literal.{negate}
use Rattle.regions.specs.Buckets.{least_in, most_in, Spot}
use Rattle.division.specs.Views.{view_of}
use Rattle.division.specs.Plan.{Plan, Proper, left, right, touches, across}
use Rattle.division.specs.Regions.{lowest}
use Rattle.division.specs.State.{State, crossed_at}
use Rattle.division.specs.Conflicts.{sum_lower, greedy, crowded, apart}
use Rattle.division.specs.Analysis.{View, conflict, place, Out, propose, ends, guarded, best, inside, matches, loose, matched, uncrossed, overfull, raises, merges, cuts, crowds, meets, parts, spreads_low, spreads_high, spreads, forks, same_size, same_size_reason, parted, parts_at, begun, step1, step2, step3, step4, step5, analyzed}
use Rattle.division.specs.Reasons.{Reason, edge_between_different_groups, too_large_if_regions_are_merged, region_already_large, region_already_small, inconsistent_bounds_if_regions_are_merged, bound_propagation_within_region}
use Rattle.division.proofs.Views.{lowest_cong, label_own, members_only, shows}
use Rattle.division.proofs.Conflicts.{greedy_every}
use Rattle.division.proofs.Phases.{best_has}
use Rattle.division.specs.Agree.{SameState, SameView}

-- a view names the plan's vertices only
pub record InRange (d : Plan) (x : View) : Type 0 where
  pub did : (v : ℕ) → v < d.vertices → x.did v < d.vertices
  pub pid : (v : ℕ) → v < d.vertices → x.pid v < d.vertices
  pub up_at : (r : ℕ) → r < d.vertices → x.up_at r < d.vertices
  pub low_at : (r : ℕ) → r < d.vertices → x.low_at r < d.vertices
  pub members : (r : ℕ) → r < d.vertices → Every (λ p. p < d.vertices) (x.members r)
  pub cells : (r : ℕ) → r < d.vertices → Every (λ p. p < d.vertices) (x.cells r)

-- a choice by equal tests of what is equal where it is chosen
pub pick_same : {A : Type 0} (b c : Bool) {x y u v : A} → b ≡ c → (c ≡ true → x ≡ y) → u ≡ v → pick b x u ≡ pick c y v
unfolding pick
pick_same true true e f g = f refl
pick_same true false e f g = absurd (true≢false e)
pick_same false true e f g = absurd (false≢true e)
pick_same false false e f g = g

loop_same : (f g : ℕ → Out → Out) (n : ℕ) (o : Out) → ((i : ℕ) → i < n → (a : Out) → f i a ≡ g i a) → iter (guarded f) n o ≡ iter (guarded g) n o
unfolding iter guarded
loop_same f g zero o h = refl
loop_same f g (suc n) o h =
    ap (guarded f n) (loop_same f g n o (λ i l a. h i (le_step l) a)) ∙ pick_same _ _ refl (λ _. h n (lt-suc_self n) _) refl

pub lowest_same : (t u : ℕ → Bool) (n : ℕ) → ((i : ℕ) → i < n → t i ≡ u i) → lowest t n ≡ lowest u n
lowest_same t u n h = lowest_cong t u n (λ i l e. sym (h i l) ∙ e) (λ i l e. h i l ∙ e)

best_same : (t u : ℕ → ℕ → Bool) (P : ℕ → Type 0) → ((c a : ℕ) → P c → P a → t c a ≡ u c a) → (a : ℕ) (cs : List ℕ) → P a → Every P cs → best t a cs ≡ best u a cs
unfolding best
best_same t u P h a [] x e = refl
best_same t u P h a (c ∷ cs) x (more y e) =
    ap (λ (z : Bool). best t (pick z c a) cs) (h c a y x) ∙ best_same t u P h (pick (u c a) c a) cs (pick_ind P _ _ _ (λ _. y) (λ _. x)) e

module _ (d : Plan) (k : Proper d) (s t : State) (w x : View) (e : SameState d s t) (v : SameView d w x) (r : InRange d x) where
  ha : (g : ℕ) → g < d.edges → left d g < d.vertices
  ha g h = (k.fine.within g h).a

  hb : (g : ℕ) → g < d.edges → right d g < d.vertices
  hb g h = (k.fine.within g h).b

  -- what is read of a region is read at a vertex's label
  at_did : (f g : ℕ → ℕ) → ((i : ℕ) → i < d.vertices → f i ≡ g i) → (u : ℕ) → u < d.vertices → f (w.did u) ≡ g (x.did u)
  at_did f g h u l = ap f (v.did u l) ∙ h _ (r.did u l)

  at_pid : (f g : ℕ → ℕ) → ((i : ℕ) → i < d.vertices → f i ≡ g i) → (u : ℕ) → u < d.vertices → f (w.pid u) ≡ g (x.pid u)
  at_pid f g h u l = ap f (v.pid u l) ∙ h _ (r.pid u l)

  dw_same : (u : ℕ) → u < d.vertices → w.dw (w.did u) ≡ x.dw (x.did u)
  dw_same = at_did w.dw x.dw v.dw

  pw_same : (u : ℕ) → u < d.vertices → w.pw (w.pid u) ≡ x.pw (x.pid u)
  pw_same = at_pid w.pw x.pw v.pw

  up_same : (u : ℕ) → u < d.vertices → w.up (w.did u) ≡ x.up (x.did u)
  up_same = at_did w.up x.up v.up

  low_same : (u : ℕ) → u < d.vertices → w.low (w.did u) ≡ x.low (x.did u)
  low_same = at_did w.low x.low v.low

  up_at_same : (u : ℕ) → u < d.vertices → w.up_at (w.did u) ≡ x.up_at (x.did u)
  up_at_same = at_did w.up_at x.up_at v.up_at

  low_at_same : (u : ℕ) → u < d.vertices → w.low_at (w.did u) ≡ x.low_at (x.did u)
  low_at_same = at_did w.low_at x.low_at v.low_at

  upper_lit : (u : ℕ) → u < d.vertices → s.upper_lit (w.up_at (w.did u)) ≡ t.upper_lit (x.up_at (x.did u))
  upper_lit u l = ap s.upper_lit (up_at_same u l) ∙ e.upper_lit _ (r.up_at _ (r.did u l))

  lower_lit : (u : ℕ) → u < d.vertices → s.lower_lit (w.low_at (w.did u)) ≡ t.lower_lit (x.low_at (x.did u))
  lower_lit u l = ap s.lower_lit (low_at_same u l) ∙ e.lower_lit _ (r.low_at _ (r.did u l))

  -- 1.
  inside_same : (g : ℕ) → g < d.edges → (o : Out) → inside d s w g o ≡ inside d t x g o
  unfolding inside
  inside_same g h o =
      pick_same _ _ (ap₂ eqb (v.did _ (ha g h)) (v.did _ (hb g h)))
      (λ _. pick_same _ _ (ap (λ z. eqb z 1) (e.edge g h)) (λ _. refl) (pick_same _ _ (ap (λ z. eqb z 0) (e.edge g h)) (λ _. refl) refl)) refl

  matches_same : (g h : ℕ) → g < d.edges → h < d.edges → matches d s w g h ≡ matches d t x g h
  unfolding matches
  matches_same g h hg hh =
      ap₂ ◌&&◌ (ap (λ z. eqb z 1) (e.edge h hh))
      (ap₂ ◌||◌ (ap₂ ◌&&◌ (ap₂ eqb (v.did _ (ha h hh)) (v.did _ (ha g hg))) (ap₂ eqb (v.did _ (hb h hh)) (v.did _ (hb g hg))))
      (ap₂ ◌&&◌ (ap₂ eqb (v.did _ (ha h hh)) (v.did _ (hb g hg))) (ap₂ eqb (v.did _ (hb h hh)) (v.did _ (ha g hg)))))

  loose_same : (g : ℕ) → g < d.edges → loose d s w g ≡ loose d t x g
  unfolding loose
  loose_same g h = ap₂ ◌&&◌ (ap not (ap₂ eqb (v.did _ (ha g h)) (v.did _ (hb g h)))) (ap (λ z. eqb z 0) (e.edge g h))

  matched_same : (g : ℕ) → g < d.edges → (o : Out) → matched d s w g o ≡ matched d t x g o
  unfolding matched
  matched_same g h o =
      let q = lowest_same (matches d s w g) (matches d t x g) d.edges (λ i l. matches_same g i h l) in
      pick_same _ _ (ap₂ ◌&&◌ (loose_same g h) (ap (λ i. ltb i d.edges) q))
      (λ y. ap (λ i. propose (d.edge_lit g) (edge_between_different_groups i g (eqb (w.did (left d g)) (w.did (right d i)))) o) q ∙
      ap (λ b. propose (d.edge_lit g) (edge_between_different_groups (lowest (matches d t x g) d.edges) g b) o)
      (ap₂ eqb (v.did _ (ha g h)) (v.did _ (hb _ (ltb-true _ _ (and_right (loose d t x g) _ y)))))) refl

  -- 2.
  crossed_same : crossed_at d s ≡ crossed_at d t
  unfolding crossed_at
  crossed_same = lowest_same _ _ d.vertices (λ i h. ap₂ ltb (e.upper i h) (e.lower i h))

  overfull_same : (i : ℕ) → i < d.vertices → (o : Out) → overfull d s w i o ≡ overfull d t x i o
  unfolding overfull
  overfull_same i h o = pick_same _ _ (ap₂ ltb (e.upper i h) (dw_same i h)) (λ _. refl) refl

  raises_same : (i : ℕ) → i < d.vertices → (o : Out) → raises d s w i o ≡ raises d t x i o
  unfolding raises
  raises_same i h o =
      pick_same _ _ (ap (λ b. ltb 0 (d.domain_len i) && b) (ap₂ ltb (e.lower i h) (dw_same i h)))
      (λ _. ap (λ z. propose (d.dom_lit i (pred (place (d.domain i) z (d.domain_len i)))) (region_already_large i) o) (dw_same i h)) refl

  merges_same : (g : ℕ) → g < d.edges → (o : Out) → merges d s w g o ≡ merges d t x g o
  unfolding merges
  merges_same g h o =
      let a = up_same _ (ha g h) in
      let b = up_same _ (hb g h) in
      pick_same _ _ (ap₂ ◌&&◌ (loose_same g h) (ap₂ ltb (ap₂ min a b) (ap₂ ◌+◌ (dw_same _ (ha g h)) (dw_same _ (hb g h)))))
      (λ _. ap (λ ls. propose (d.edge_lit g) (too_large_if_regions_are_merged g ls) o)
      (ap s.upper_lit (pick_same _ _ (ap₂ ltb a b) (λ _. up_at_same _ (ha g h)) (up_at_same _ (hb g h))) ∙
      e.upper_lit _ (pick_ind (λ z. z < d.vertices) _ _ _ (λ _. r.up_at _ (r.did _ (ha g h))) (λ _. r.up_at _ (r.did _ (hb g h)))))) refl

  -- 3.
  cuts_same : (i : ℕ) → i < d.vertices → (o : Out) → cuts d s w i o ≡ cuts d t x i o
  unfolding cuts
  cuts_same i h o =
      pick_same _ _ refl
      (λ _. pick_same _ _ (ap₂ ltb (pw_same i h) (e.lower i h)) (λ _. refl)
      (pick_same _ _ (ap₂ ltb (pw_same i h) (e.upper i h))
      (λ _. ap (λ z. propose (negate (d.dom_lit i (pred (place (d.domain i) (suc z) (d.domain_len i))))) (region_already_small i) o) (pw_same i h)) refl)) refl

  greedy_same : (cur : ℕ) (ps : List ℕ) → Every (λ p. p < d.vertices) ps → greedy s cur ps ≡ greedy t cur ps
  unfolding greedy
  greedy_same cur [] none = refl
  greedy_same cur (p ∷ ps) (more h y) =
      pick_same _ _ (ap (ltb cur) (e.lower p h)) (λ _. ap (λ z. p ∷ greedy s z ps) (e.upper p h) ∙ ap (λ (z : List ℕ). p ∷ z) (greedy_same (t.upper p) ps y)) (greedy_same cur ps y)

  sum_same : (ps : List ℕ) → Every (λ p. p < d.vertices) ps → sum_lower s ps ≡ sum_lower t ps
  unfolding sum_lower
  sum_same [] none = refl
  sum_same (p ∷ ps) (more h y) = ap₂ ◌+◌ (e.lower p h) (sum_same ps y)

  crowds_same : (i : ℕ) → i < d.vertices → (o : Out) → crowds d s w i o ≡ crowds d t x i o
  unfolding crowds
  crowds_same i h o =
      let q : greedy s 0 (w.cells i) ≡ greedy t 0 (x.cells i) = ap (greedy s 0) (v.cells i h) ∙ greedy_same 0 (x.cells i) (r.cells i h) in
      pick_same _ _ (ap₂ ◌&&◌ (ap (λ z. eqb z i) (v.pid i h)) (ap₂ ltb (v.pw i h) (ap (sum_lower s) q ∙ sum_same _ (greedy_every t 0 (x.cells i) (r.cells i h)))))
      (λ _. ap (λ (z : List ℕ). ends (conflict (crowded i z)) o) q) refl

  -- 4.
  meets_same : (i : ℕ) → i < d.vertices → (o : Out) → meets d s w i o ≡ meets d t x i o
  unfolding meets
  meets_same i h o =
      let m = x.members i in
      let P : ℕ → Type 0 = λ p. p < d.vertices in
      let a : best (λ c b. ltb (s.lower b) (s.lower c)) i (w.members i) ≡ best (λ c b. ltb (t.lower b) (t.lower c)) i m =
      ap (best (λ c b. ltb (s.lower b) (s.lower c)) i) (v.members i h) ∙ best_same _ _ (λ p. p < d.vertices) (λ c b hc hb. ap₂ ltb (e.lower b hb) (e.lower c hc)) i m h (r.members i h) in
      let b : best (λ c b. ltb (s.upper c) (s.upper b)) i (w.members i) ≡ best (λ c b. ltb (t.upper c) (t.upper b)) i m =
      ap (best (λ c b. ltb (s.upper c) (s.upper b)) i) (v.members i h) ∙ best_same _ _ (λ p. p < d.vertices) (λ c b hc hb. ap₂ ltb (e.upper c hc) (e.upper b hb)) i m h (r.members i h) in
      pick_same _ _
      (ap₂ ◌&&◌ (ap (λ z. eqb z i) (v.did i h))
      (ap₂ ltb (ap s.upper b ∙ e.upper _ (best_has (λ p. p < d.vertices) _ i m h (r.members i h))) (ap s.lower a ∙ e.lower _ (best_has (λ p. p < d.vertices) _ i m h (r.members i h)))))
      (λ _. ap₂ (λ p q. ends (conflict (apart p q)) o) a b) refl

  first_same : (g : ℕ) → g < d.edges → (o : Out) →
      pick (loose d s w g && ltb (w.up (w.did (right d g))) (w.low (w.did (left d g)))) (propose (d.edge_lit g) (inconsistent_bounds_if_regions_are_merged g (w.up_at (w.did (right d g))) (w.low_at (w.did (left d g))) true) o) o ≡
      pick (loose d t x g && ltb (x.up (x.did (right d g))) (x.low (x.did (left d g)))) (propose (d.edge_lit g) (inconsistent_bounds_if_regions_are_merged g (x.up_at (x.did (right d g))) (x.low_at (x.did (left d g))) true) o) o
  first_same g h o =
      pick_same _ _ (ap₂ ◌&&◌ (loose_same g h) (ap₂ ltb (up_same _ (hb g h)) (low_same _ (ha g h))))
      (λ _. ap₂ (λ a b. propose (d.edge_lit g) (inconsistent_bounds_if_regions_are_merged g a b true) o) (up_at_same _ (hb g h)) (low_at_same _ (ha g h))) refl

  parts_same : (g : ℕ) → g < d.edges → (o : Out) → parts d s w g o ≡ parts d t x g o
  unfolding parts
  parts_same g h o =
      pick_same _ _ (ap₂ ◌&&◌ (loose_same g h) (ap₂ ltb (up_same _ (ha g h)) (low_same _ (hb g h))))
      (λ _. ap₂ (λ (y : Reason) (z : Out). propose (d.edge_lit g) y z)
      (ap₂ (λ a b. inconsistent_bounds_if_regions_are_merged g a b false) (up_at_same _ (ha g h)) (low_at_same _ (hb g h))) (first_same g h o))
      (first_same g h o)

  spreads_low_same : (i : ℕ) → i < d.vertices → (o : Out) → spreads_low d s w i o ≡ spreads_low d t x i o
  unfolding spreads_low
  spreads_low_same i h o =
      pick_same _ _ (ap (λ b. ltb 0 (d.domain_len i) && b) (ap₂ ltb (e.lower i h) (low_same i h)))
      (λ _. ap₂ (λ z y. propose (d.dom_lit i (pred (place (d.domain i) z (d.domain_len i)))) y o) (low_same i h) (ap₂ (λ a ls. bound_propagation_within_region a i ls) (low_at_same i h) (lower_lit i h))) refl

  spreads_high_same : (i : ℕ) → i < d.vertices → (o : Out) → spreads_high d s w i o ≡ spreads_high d t x i o
  unfolding spreads_high
  spreads_high_same i h o =
      pick_same _ _ (ap (λ b. ltb 0 (d.domain_len i) && b) (ap₂ ltb (up_same i h) (e.upper i h)))
      (λ _. ap₂ (λ z y. propose (negate (d.dom_lit i (pred (place (d.domain i) (suc z) (d.domain_len i))))) y o) (up_same i h) (ap₂ (λ a ls. bound_propagation_within_region a i ls) (up_at_same i h) (upper_lit i h))) refl

  spreads_same : (i : ℕ) → i < d.vertices → (o : Out) → spreads d s w i o ≡ spreads d t x i o
  unfolding spreads
  spreads_same i h o = ap (spreads_high d s w i) (spreads_low_same i h o) ∙ spreads_high_same i h _

  -- 5.
  far : (u g : ℕ) → g < d.edges → across d u g < d.vertices
  unfolding across
  far u g h = pick_ind (λ z. z < d.vertices) _ _ _ (λ _. hb g h) (λ _. ha g h)

  forks_same : (u g h : ℕ) → g < d.edges → h < d.edges → forks d s w u g h ≡ forks d t x u g h
  unfolding forks
  forks_same u g h hg hh =
      ap (λ b. (touches d u g && touches d u h) && b)
      (ap₂ ◌&&◌ (ap₂ ◌&&◌ (loose_same g hg) (loose_same h hh)) (ap not (ap₂ eqb (v.did _ (far u g hg)) (v.did _ (far u h hh)))))

  size_same : (u g h : ℕ) → u < d.vertices → g < d.edges → h < d.edges → same_size d s w u g h ≡ same_size d t x u g h
  unfolding same_size
  size_same u g h hu hg hh =
      let a = far u g hg in
      let b = far u h hh in
      ap₂ ◌&&◌ (forks_same u g h hg hh)
      (ap₂ ◌&&◌ (ap₂ ◌&&◌ (ap₂ eqb (low_same _ a) (up_same _ a)) (ap₂ eqb (low_same _ b) (up_same _ b)))
      (ap₂ ◌&&◌ (ap₂ eqb (low_same _ a) (low_same _ b)) (ap₂ ltb (low_same _ a) (ap₂ ◌+◌ (ap₂ ◌+◌ (dw_same _ a) (dw_same _ b)) (dw_same u hu)))))

  reason_same : (u g h : ℕ) → g < d.edges → h < d.edges → same_size_reason d s w u g h ≡ same_size_reason d t x u g h
  unfolding same_size_reason
  reason_same u g h hg hh =
      let a = far u g hg in
      let b = far u h hh in
      let p = lower_lit _ a in
      let q = upper_lit _ a in
      let p' = lower_lit _ b in
      let q' = upper_lit _ b in
      cc

  parted_same : (u g h : ℕ) → u < d.vertices → g < d.edges → h < d.edges → (o : Out) → parted d s w u g h o ≡ parted d t x u g h o
  unfolding parted
  parted_same u g h hu hg hh o =
      pick_same _ _ (size_same u g h hu hg hh)
      (λ _. pick_same _ _ (ap (λ z. eqb z 0) (low_same _ (far u g hg))) (λ _. refl)
      (ap (λ (z : Reason). propose (d.edge_lit h) z (propose (d.edge_lit g) z o)) (reason_same u g h hg hh))) refl

  parts_at_same : (u : ℕ) → u < d.vertices → (o : Out) → parts_at d s w u o ≡ parts_at d t x u o
  unfolding parts_at
  parts_at_same u hu o = loop_same _ _ d.edges o (λ g hg a. loop_same _ _ g a (λ h hh b. parted_same u g h hu hg (omega arith) b))

  step1_same : step1 d s w ≡ step1 d t x
  unfolding step1 begun
  step1_same =
      ap (λ (o : Out). pick d.allow_extra_walls (begun d t x) o)
      (ap (λ (o : Out). iter (guarded (matched d s w)) d.edges o) (loop_same (inside d s w) (inside d t x) d.edges _ inside_same) ∙ loop_same _ _ d.edges _ matched_same)

  step2_same : (c : ℕ) (o : Out) → step2 d s w c o ≡ step2 d t x c o
  unfolding step2 uncrossed
  step2_same c o =
      ap (λ (a : Out). iter (guarded (merges d s w)) d.edges (iter (guarded (raises d s w)) d.vertices a)) (loop_same (overfull d s w) (overfull d t x) d.vertices _ overfull_same) ∙
      ap (λ (a : Out). iter (guarded (merges d s w)) d.edges a) (loop_same (raises d s w) (raises d t x) d.vertices _ raises_same) ∙
      loop_same (merges d s w) (merges d t x) d.edges _ merges_same

  step3_same : (o : Out) → step3 d s w o ≡ step3 d t x o
  unfolding step3
  step3_same o =
      ap (λ (a : Out). iter (guarded (crowds d s w)) d.vertices a) (loop_same (cuts d s w) (cuts d t x) d.vertices o cuts_same) ∙
      loop_same (crowds d s w) (crowds d t x) d.vertices _ crowds_same

  step4_same : (o : Out) → step4 d s w o ≡ step4 d t x o
  unfolding step4
  step4_same o =
      ap (λ (a : Out). iter (guarded (spreads d s w)) d.vertices (iter (guarded (parts d s w)) d.edges a)) (loop_same (meets d s w) (meets d t x) d.vertices o meets_same) ∙
      ap (λ (a : Out). iter (guarded (spreads d s w)) d.vertices a) (loop_same (parts d s w) (parts d t x) d.edges _ parts_same) ∙
      loop_same (spreads d s w) (spreads d t x) d.vertices _ spreads_same

  step5_same : (o : Out) → step5 d s w o ≡ step5 d t x o
  unfolding step5
  step5_same o = pick_same _ _ refl (λ _. loop_same (parts_at d s w) (parts_at d t x) d.vertices o parts_at_same) refl

  pub analyzed_same : analyzed d s w ≡ analyzed d t x
  unfolding analyzed
  analyzed_same =
      ap (λ c. step5 d s w (step4 d s w (step3 d s w (step2 d s w c (step1 d s w))))) crossed_same ∙
      ap (λ (o : Out). step5 d s w (step4 d s w (step3 d s w (step2 d s w (crossed_at d t) o)))) step1_same ∙
      ap (λ (o : Out). step5 d s w (step4 d s w (step3 d s w o))) (step2_same _ _) ∙
      ap (λ (o : Out). step5 d s w (step4 d s w o)) (step3_same _) ∙ ap (step5 d s w) (step4_same _) ∙ step5_same _

least_below : (id b : ℕ → ℕ) (r n : ℕ) → 0 < n → (least_in id b r n).vertex < n
unfolding least_in
least_below id b r n h = iter_ind (λ _ (a : Spot). a.vertex < n) _ _ n h (λ i a l p. pick_ind (λ (z : Spot). z.vertex < n) _ _ _ (λ _. l) (λ _. p))

most_below : (id b : ℕ → ℕ) (r n : ℕ) → 0 < n → (most_in id b r n).vertex < n
unfolding most_in
most_below id b r n h = iter_ind (λ _ (a : Spot). a.vertex < n) _ _ n h (λ i a l p. pick_ind (λ (z : Spot). z.vertex < n) _ _ _ (λ _. l) (λ _. p))

-- the view that is computed names the plan's vertices only
pub view_in_range : (d : Plan) (k : Proper d) (s : State) → InRange d (view_of d s)
unfolding view_of
view_in_range d k s = record {
  did = λ v h. (label_own d k s.edge_state false v h).0;
  pid = λ v h. (label_own d k s.edge_state true v h).0;
  up_at = λ r h. least_below _ _ r d.vertices (omega arith);
  low_at = λ r h. most_below _ _ r d.vertices (omega arith);
  members = λ r h. every_map (λ p z. z.0) (members_only d k s.edge_state false r h);
  cells = λ r h. every_map (λ p z. z.vertex) ((shows d k s).cells r);
}
