-- The literals of a list stand when it is made.
use Prim.Native.Nat.{ℕ, suc, ◌<◌}
use native.Mathlib.Omega.{arith}
use mathlib.Core.Path.{◌≡◌}
use mathlib.Core.Logic.{◌⊎◌, ⊎_elim}
use mathlib.Core.Bool.{false}
use mathlib.Core.List.{List, [], ◌∷◌, map}
use borrow.Author.Tests.{eqb-true}
use Rattle.base.specs.Lists.{Every, none, more}
use Rattle.base.proofs.Loop.{pick_ind}
use Rattle.base.proofs.Tests.{and_left}
use Rattle.base.proofs.Lists.{every_append, collect_every}
use Rattle.graph.specs.Search.{passes, searched, at, Scan, edge_to}
use Rattle.graph.specs.Paths.{Leads, Chain, here, there}
use Rattle.graph.proofs.Bfs.{Pop, pop_all}
use Rattle.graph.proofs.Keep.{blank_fresh}
use Rattle.division.specs.Plan.{Plan, Proper, left, right}
use Rattle.division.specs.Regions.{within}
use Rattle.division.specs.State.{State, decided, Same, Near}
use Rattle.division.specs.Reasons.{connected_lit, connected_path, decided_region, leaves, potential_region}
use Rattle.division.specs.Conflicts.{spans, Conflict, conflict_list}
use Rattle.division.specs.Noted.{Noted}
use Rattle.division.specs.Proposed.{IsConflict, is_disconnected, is_crossing, is_over, is_under, is_crowded, is_apart}
use Rattle.division.proofs.Walk.{finds, joined_below}

module _ (d : Plan) (Stands : ℕ → Type 0) (s : State) (k : Proper d) (n : Noted d Stands s) where
  passed_stands : {g p q : ℕ} → Leads (decided d s) d.edges g p q → Stands (connected_lit d g)
  unfolding passes
  passed_stands {g} l = (n.connected g l.known).0 (eqb-true _ _ l.passed)

  chain_stands : {p q : ℕ} {l : List ℕ} → Chain (decided d s) d.edges p l q → Every Stands (map (connected_lit d) l)
  chain_stands here = none
  chain_stands (there g c l) = more (passed_stands l) (chain_stands c)

  pub path_stands : (u v : ℕ) → u < d.vertices → Same d s u v → Every Stands (connected_path d s u v)
  unfolding connected_path
  path_stands u v h j = let f = finds d k s.edge_state false u h in chain_stands (f.path v (f.all v j.0 j.1))

  pub decided_stands : (u : ℕ) → u < d.vertices → Every Stands (decided_region d s u)
  unfolding decided_region
  decided_stands u h = collect_every _ _ (λ i c. more (go i (omega arith)) none)
    where
      r : Scan
      r = searched (decided d s) d.edges d.vertices u

      pop : Pop (decided d s) d.edges d.vertices u d.vertices r
      pop = pop_all (decided d s) d.edges d.vertices u k.fine _ blank_fresh h

      go : (i : ℕ) → suc i < r.count → Stands (connected_lit d (edge_to r (at r (suc i))))
      go i c = ⊎_elim (λ (z : suc i ≡ 0). absurd (omega arith)) (λ p. passed_stands p.leads) (pop.base.parent (suc i) c)

  pub potential_stands : (u : ℕ) → Every Stands (potential_region d s u)
  unfolding potential_region leaves
  potential_stands u =
      collect_every _ _ (λ p hp. pick_ind (Every Stands) _ _ _ (λ _. collect_every _ _ (λ g hg. pick_ind (Every Stands) _ _ _
      (λ t. more ((n.disconnected g hg).0 (eqb-true _ _ (and_left _ _ t))) none) (λ _. none))) (λ _. none))

  spans_stand : (r : ℕ) (ps : List ℕ) → r < d.vertices → Every (Near d s r) ps → Every Stands (spans s ps)
  unfolding spans
  spans_stand r [] h e = none
  spans_stand r (p ∷ ps) h (more j e) =
      let hp : p < d.vertices = joined_below k.fine h j in
      every_append (s.lower_lit p) _ (n.low_stands p hp) (every_append (s.upper_lit p) _ (n.high_stands p hp) (spans_stand r ps h e))

  -- all that a conflict lists stands
  pub conflict_stands : (c : Conflict) → IsConflict d s c → Every Stands (conflict_list d s c)
  unfolding conflict_list
  conflict_stands c (is_disconnected g h t j) = every_append (connected_path d s (left d g) (right d g)) _ (path_stands (left d g) (right d g) (k.fine.within g h).a j) (more ((n.disconnected g h).0 t) none)
  conflict_stands c (is_crossing v h l) = every_append (s.lower_lit v) _ (n.low_stands v h) (n.high_stands v h)
  conflict_stands c (is_over v h l) = every_append (decided_region d s v) _ (decided_stands v h) (n.high_stands v h)
  conflict_stands c (is_under v h l) = every_append (potential_region d s v) _ (potential_stands v) (n.low_stands v h)
  conflict_stands c (is_crowded r ps h e m a l) = every_append (potential_region d s r) _ (potential_stands r) (spans_stand r ps h e)
  conflict_stands c (is_apart p q hp hq j l) = every_append (connected_path d s p q) _ (path_stands p q hp j) (every_append (s.lower_lit p) _ (n.low_stands p hp) (n.high_stands q hq))
