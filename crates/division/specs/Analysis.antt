-- Document 01, "Analysis, in the order of `analyze`": a definition that computes from the regions' labels, weights and bounds.
use Rattle.std.specs.Prelude.{ℕ, zero, suc, pred, ◌+◌, min, Bool, true, false, not, ◌&&◌, ◌||◌, List, [], ◌∷◌, eqb, ltb}
use Rattle.base.specs.Iter.{iter, pick}
use Rattle.sat.specs.Literal.{negate}
use Rattle.division.specs.Plan.{Plan, left, right, touches, across}
use Rattle.division.specs.Regions.{lowest}
use Rattle.division.specs.State.{State, state_of, crossed_at}
use Rattle.division.specs.Reasons.{connected_lit, Reason, edge_in_same_group, edge_between_different_groups, too_large_if_regions_are_merged, region_already_large, region_already_small, inconsistent_bounds_if_regions_are_merged, bound_propagation_within_region, adjacent_same_size_regions}
use Rattle.division.specs.Conflicts.{sum_lower, greedy, Conflict, disconnected_inside, crossing, over, under, crowded, apart}

-- What is computed first. A region is named by its label, its lowest vertex: r is a region's label where it is its own.
pub record View : Type 0 where
  -- the labels of a vertex's decided region and of its potential region, and their weights
  pub did : ℕ → ℕ
  pub pid : ℕ → ℕ
  pub dw : ℕ → ℕ
  pub pw : ℕ → ℕ
  -- the least upper and the greatest lower bound in a decided region, and the lowest vertex that has it
  pub up : ℕ → ℕ
  pub up_at : ℕ → ℕ
  pub low : ℕ → ℕ
  pub low_at : ℕ → ℕ
  -- the vertices of a decided region, in the order of the search from its label
  pub members : ℕ → List ℕ
  -- the vertices with a domain of a potential region, in the order in which ranges are taken
  pub cells : ℕ → List ℕ

-- how many of the first n entries, which rise, are below w
unfoldable pub place : (ℕ → ℕ) → ℕ → ℕ → ℕ
place f w zero = 0
place f w (suc n) = pick (ltb (f n) w) (suc n) (place f w n)

pub data Verdict : Type 0 where
  going : Verdict
  conflict : Conflict → Verdict
  -- refusal 13
  zero_size : Verdict

-- a literal and the reason for which it is proposed
pub record Proposal : Type 0 where
  pub lit : ℕ
  pub why : Reason

-- P holds of the literal and the reason of each proposal in a list
pub data Each (P : ℕ → Reason → Type 0) : List Proposal → Type 0 where
  nothing : Each P []
  also : {x : Proposal} {l : List Proposal} → P x.lit x.why → Each P l → Each P (x ∷ l)

-- the newest proposal first
pub record Out : Type 0 where
  pub verdict : Verdict
  pub props : List Proposal

unfoldable pub still : Verdict → Bool
still going = true
still (conflict c) = false
still zero_size = false

unfoldable pub propose : ℕ → Reason → Out → Out
propose l r o = record { verdict = o.verdict; props = record { lit = l; why = r } ∷ o.props }

unfoldable pub ends : Verdict → Out → Out
ends v o = record { verdict = v; props = o.props }

-- the loops stop where a verdict is found
unfoldable pub guarded : (ℕ → Out → Out) → ℕ → Out → Out
guarded f i o = pick (still o.verdict) (f i o) o

-- the first of a list that the test prefers to all before it
unfoldable pub best : (ℕ → ℕ → Bool) → ℕ → List ℕ → ℕ
best t a [] = a
best t a (c ∷ cs) = best t (pick (t c a) c a) cs

module _ (d : Plan) (s : State) (w : View) where
  abbrev pub lid : ℕ → ℕ
  lid g = w.did (left d g)

  abbrev pub rid : ℕ → ℕ
  rid g = w.did (right d g)

  -- 1. a disconnected edge inside a region; an undecided one
  unfoldable pub inside : ℕ → Out → Out
  inside g o =
      pick (eqb (lid g) (rid g))
      (pick (eqb (state_of s g) 1) (ends (conflict (disconnected_inside g)) o) (pick (eqb (state_of s g) 0) (propose (connected_lit d g) (edge_in_same_group g) o) o))
      o

  -- edge h is disconnected and joins the two regions that edge g joins
  unfoldable pub matches : ℕ → ℕ → Bool
  matches g h = eqb (state_of s h) 1 && ((eqb (lid h) (lid g) && eqb (rid h) (rid g)) || (eqb (lid h) (rid g) && eqb (rid h) (lid g)))

  -- edge g is undecided and joins two regions
  unfoldable pub loose : ℕ → Bool
  loose g = not (eqb (lid g) (rid g)) && eqb (state_of s g) 0

  unfoldable pub matched : ℕ → Out → Out
  matched g o =
      let h = lowest (matches g) d.edges in
      pick (loose g && ltb h d.edges) (propose (d.edge_lit g) (edge_between_different_groups h g (eqb (lid g) (rid h))) o) o

  -- 2. crossed bounds, of the vertex that applying a literal told, if any; upper bounds, lower bounds raised, regions that would be too
  -- large
  unfoldable pub uncrossed : ℕ → Out → Out
  uncrossed v o = pick (ltb v d.vertices) (ends (conflict (crossing v)) o) o

  unfoldable pub overfull : ℕ → Out → Out
  overfull v o = pick (ltb (s.upper v) (w.dw (w.did v))) (ends (conflict (over v)) o) o

  unfoldable pub raises : ℕ → Out → Out
  raises v o =
      pick (ltb 0 (d.domain_len v) && ltb (s.lower v) (w.dw (w.did v)))
      (propose (d.dom_lit v (pred (place (d.domain v) (w.dw (w.did v)) (d.domain_len v)))) (region_already_large v) o) o

  unfoldable pub merges : ℕ → Out → Out
  merges g o =
      pick (loose g && ltb (min (w.up (lid g)) (w.up (rid g))) (w.dw (lid g) + w.dw (rid g)))
      (propose (d.edge_lit g) (too_large_if_regions_are_merged g (s.upper_lit (pick (ltb (w.up (lid g)) (w.up (rid g))) (w.up_at (lid g)) (w.up_at (rid g))))) o) o

  -- 3. lower bounds, upper bounds cut, ranges that lie apart
  unfoldable pub cuts : ℕ → Out → Out
  cuts v o =
      pick (ltb 0 (d.domain_len v))
      (pick (ltb (w.pw (w.pid v)) (s.lower v)) (ends (conflict (under v)) o)
      (pick (ltb (w.pw (w.pid v)) (s.upper v)) (propose (negate (d.dom_lit v (pred (place (d.domain v) (suc (w.pw (w.pid v))) (d.domain_len v))))) (region_already_small v) o) o))
      o

  unfoldable pub crowds : ℕ → Out → Out
  crowds r o =
      let ps = greedy s 0 (w.cells r) in
      pick (eqb (w.pid r) r && ltb (w.pw r) (sum_lower s ps)) (ends (conflict (crowded r ps)) o) o

  -- 4. bounds inside a region meet, edges between regions whose bounds would not, bounds spread
  unfoldable pub meets : ℕ → Out → Out
  meets r o =
      let a = best (λ c b. ltb (s.lower b) (s.lower c)) r (w.members r) in
      let b = best (λ c b. ltb (s.upper c) (s.upper b)) r (w.members r) in
      pick (eqb (w.did r) r && ltb (s.upper b) (s.lower a)) (ends (conflict (apart a b)) o) o

  unfoldable pub parts : ℕ → Out → Out
  parts g o =
      let p = pick (loose g && ltb (w.up (rid g)) (w.low (lid g))) (propose (d.edge_lit g) (inconsistent_bounds_if_regions_are_merged g (w.up_at (rid g)) (w.low_at (lid g)) true) o) o in
      pick (loose g && ltb (w.up (lid g)) (w.low (rid g))) (propose (d.edge_lit g) (inconsistent_bounds_if_regions_are_merged g (w.up_at (lid g)) (w.low_at (rid g)) false) p) p

  unfoldable pub spreads_low : ℕ → Out → Out
  spreads_low v o =
      pick (ltb 0 (d.domain_len v) && ltb (s.lower v) (w.low (w.did v)))
      (propose (d.dom_lit v (pred (place (d.domain v) (w.low (w.did v)) (d.domain_len v)))) (bound_propagation_within_region (w.low_at (w.did v)) v (s.lower_lit (w.low_at (w.did v)))) o) o

  unfoldable pub spreads_high : ℕ → Out → Out
  spreads_high v o =
      pick (ltb 0 (d.domain_len v) && ltb (w.up (w.did v)) (s.upper v))
      (propose (negate (d.dom_lit v (pred (place (d.domain v) (suc (w.up (w.did v))) (d.domain_len v))))) (bound_propagation_within_region (w.up_at (w.did v)) v (s.upper_lit (w.up_at (w.did v)))) o) o

  unfoldable pub spreads : ℕ → Out → Out
  spreads v o = spreads_high v (spreads_low v o)

  -- 5. Edges g and h, undecided, lead from vertex u to two other regions that have one and the same fixed size, which would be passed
  -- if both were joined to u's. The Rust walks `adj[u]`, where an edge from u to itself stands twice: these are the same turns in the same
  -- order (proofs/Adjacent.antt).
  unfoldable pub forks : ℕ → ℕ → ℕ → Bool
  forks u g h = (touches d u g && touches d u h) && ((loose g && loose h) && not (eqb (w.did (across d u g)) (w.did (across d u h))))

  unfoldable pub same_size : ℕ → ℕ → ℕ → Bool
  same_size u g h =
      let a = w.did (across d u g) in
      let b = w.did (across d u h) in
      forks u g h && ((eqb (w.low a) (w.up a) && eqb (w.low b) (w.up b)) && (eqb (w.low a) (w.low b) && ltb (w.low a) (w.dw a + w.dw b + w.dw (w.did u))))

  unfoldable pub same_size_reason : ℕ → ℕ → ℕ → Reason
  same_size_reason u g h =
      let a = across d u g in
      let b = across d u h in
      adjacent_same_size_regions a (s.lower_lit (w.low_at (w.did a))) (s.upper_lit (w.up_at (w.did a))) b (s.lower_lit (w.low_at (w.did b)))
      (s.upper_lit (w.up_at (w.did b))) u

  -- a fixed size 0 has no vertex with a lower bound above 0 to name: refusal 13
  unfoldable pub parted : ℕ → ℕ → ℕ → Out → Out
  parted u g h o =
      pick (same_size u g h)
      (pick (eqb (w.low (w.did (across d u g))) 0) (ends zero_size o) (propose (d.edge_lit h) (same_size_reason u g h) (propose (d.edge_lit g) (same_size_reason u g h) o))) o

  unfoldable pub parts_at : ℕ → Out → Out
  parts_at u o = iter (guarded (λ g. iter (guarded (parted u g)) g)) d.edges o

  unfoldable pub begun : Out
  begun = record { verdict = going; props = [] }

  unfoldable pub step1 : Out
  step1 = pick d.allow_extra_walls begun (iter (guarded matched) d.edges (iter (guarded inside) d.edges begun))

  unfoldable pub step2 : ℕ → Out → Out
  step2 c o =
      iter (guarded merges) d.edges (iter (guarded raises) d.vertices (iter (guarded overfull) d.vertices (guarded uncrossed c o)))

  unfoldable pub step3 : Out → Out
  step3 o = iter (guarded crowds) d.vertices (iter (guarded cuts) d.vertices o)

  unfoldable pub step4 : Out → Out
  step4 o = iter (guarded spreads) d.vertices (iter (guarded parts) d.edges (iter (guarded meets) d.vertices o))

  unfoldable pub step5 : Out → Out
  step5 o = pick d.disallow_adjacent_same_size_regions (iter (guarded parts_at) d.vertices o) o

  -- `analyze`
  unfoldable pub analyzed : Out
  analyzed = step5 (step4 (step3 (step2 (crossed_at d s) step1)))
