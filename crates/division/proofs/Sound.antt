-- What each list of literals forces on a division in which all of it holds.
use Prim.Native.Nat.{ℕ, zero, suc, pred, ◌<◌, ◌≤◌, zero-le}
use native.Mathlib.Omega.{arith}
use native.Mathlib.Nat.{le_refl, eq-or-lt_of_le}
use mathlib.Core.Path.{◌≡◌, refl, sym, ◌∙◌, ap, subst}
use mathlib.Core.Logic.{◌⊎◌, inl, ⊎_elim}
use mathlib.Core.Bool.{Bool, true, false, not, ◌&&◌, or-true}
use mathlib.Core.List.{List, [], ◌∷◌, map}
use lib.Dec.{eqb}
use lib.ListN.{get_or}
use borrow.Author.Tests.{eqb-true, eq-eqb, ne_eqb}
use Rattle.base.specs.Iter.{pick}
use Rattle.base.specs.Lists.{Every, more, tab}
use Rattle.base.proofs.Loop.{eq_or_not, pick_yes, pick_no}
use Rattle.base.proofs.Lists.{every_head, every_only, every_collect, tab_at}
use Rattle.base.proofs.Tests.{le_or_lt}
use Rattle.sat.specs.Literal.{Holds, value}
use Rattle.sat.proofs.Literal.{negate_fails}
use Rattle.graph.specs.Search.{graph, is_open, searched, passes, at, Scan, edge_to}
use Rattle.graph.specs.Paths.{Leads, Chain, here, there, Joined}
use Rattle.graph.proofs.Joined.{joined_refl}
use Rattle.graph.proofs.Base.{Parent}
use Rattle.graph.proofs.Bfs.{Pop, pop_all}
use Rattle.graph.proofs.Keep.{blank_fresh}
use Rattle.division.specs.Plan.{Plan, Proper, left, right}
use Rattle.division.specs.Regions.{within, weight_from}
use Rattle.division.specs.State.{State, decided, potential, Same, Near, decided_weight, potential_weight}
use Rattle.division.specs.Reasons.{connected_lit, connected_path, decided_region, leaves, potential_region}
use Rattle.division.specs.Together.{mark, graph_of, Together, region_weight, Computed}
use Rattle.division.specs.Noted.{Lower, Upper}
use Rattle.division.proofs.Sums.{total_most}
use Rattle.division.proofs.Walk.{joined_below, finds, within_joined, joined_within, weight_le}

module _ (d : Plan) (σ : ℕ → Bool) where
  -- an edge of the division is connected exactly where its literal fails
  pub connected_fails : (g : ℕ) → g < d.edges → is_open (graph_of d σ) g ≡ true → Holds σ (d.edge_lit g) → ⊥
  unfolding passes mark
  connected_fails g h o t =
      let a : get_or (tab (mark d σ) d.edges) g 0 ≡ 1 = tab_at (mark d σ) d.edges g h ∙ pick_yes _ _ t in
      let b : get_or (tab (mark d σ) d.edges) g 0 ≡ 2 = eqb-true _ _ o in
      omega arith

  pub fails_connected : (g : ℕ) → g < d.edges → (Holds σ (d.edge_lit g) → ⊥) → is_open (graph_of d σ) g ≡ true
  unfolding passes mark
  fails_connected g h n = eq-eqb _ _ (tab_at (mark d σ) d.edges g h ∙ go (value σ (d.edge_lit g)) n)
    where
      go : (t : Bool) → (t ≡ true → ⊥) → pick {A = ℕ} t 1 2 ≡ 2
      go true n = absurd (n refl)
      go false n = pick_no _ _ refl

  pub negated_connected : (g : ℕ) → g < d.edges → Holds σ (connected_lit d g) → is_open (graph_of d σ) g ≡ true
  negated_connected g h t = fails_connected g h (negate_fails σ (d.edge_lit g) t)

  -- the ends of an edge whose literal fails are in one region
  pub fails_together : (g : ℕ) → g < d.edges → (Holds σ (d.edge_lit g) → ⊥) → Together d σ (left d g) (right d g)
  fails_together g h n = (g ∷ [], there g here (record { known = h; passed = fails_connected g h n; ends = inl (refl, refl) }))

  -- a chain of connected edges
  chain_together : {e : List ℕ} {po : Bool} {p q : ℕ} {l : List ℕ} → Chain (graph d.ends e po) d.edges p l q → Every (Holds σ) (map (connected_lit d) l) → Together d σ p q
  chain_together {p} here x = joined_refl _
  chain_together (there g c l) (more t x) =
      let j = chain_together c x in
      (g ∷ j.0, there g j.1 (record { known = l.known; passed = negated_connected g l.known t; ends = l.ends }))

  module _ (k : Proper d) (s : State) (u : ℕ) (hu : u < d.vertices) where
    -- the path list
    pub path_sound : (v : ℕ) → Same d s u v → Every (Holds σ) (connected_path d s u v) → Together d σ u v
    unfolding connected_path
    path_sound v j x = let f = finds d k s.edge_state false u hu in chain_together (f.path v (f.all v j.0 j.1)) x

    abbrev r : Scan
    r = searched (decided d s) d.edges d.vertices u

    -- the list of a decided region
    module _ (x : Every (Holds σ) (decided_region d s u)) where
      tree_lit : (i : ℕ) → suc i < r.count → Holds σ (connected_lit d (edge_to r (at r (suc i))))
      unfolding decided_region
      tree_lit i h = every_head (every_collect _ (pred r.count) i (omega arith) x)

      abbrev pop : Pop (decided d s) d.edges d.vertices u d.vertices r
      pop = pop_all (decided d s) d.edges d.vertices u k.fine _ blank_fresh hu

      tree : (n i : ℕ) → i ≤ n → i < r.count → Together d σ u (at r i)
      tree zero i h c = let z : i ≡ 0 = omega arith in rw (z, pop.base.first) (joined_refl u)
      tree (suc n) zero h c = rw pop.base.first (joined_refl u)
      tree (suc n) (suc i) h c =
          ⊎_elim (λ (z : suc i ≡ 0). absurd (omega arith)) (λ p. step p (tree n p.j (omega (arith, p.before)) (omega (arith, p.before)))) (pop.base.parent (suc i) c)
        where
          step : (p : Parent (decided d s) d.edges pop.lev r (suc i)) → Together d σ u (at r p.j) → Together d σ u (at r (suc i))
          step p j =
              (_ ∷ j.0, there _ j.1 (record { known = p.leads.known; passed = negated_connected _ p.leads.known (tree_lit i c); ends = p.leads.ends }))

      pub decided_sound : (q : ℕ) → Same d s u q → Together d σ u q
      decided_sound q j =
          let f = finds d k s.edge_state false u hu in
          let (i, c, y) = f.listed q (f.all q j.0 j.1) in
          subst (Together d σ u) y (tree i i (le_refl i) c)

      pub decided_weight_lem : decided_weight d s u ≤ region_weight d σ u
      decided_weight_lem = weight_le d k s.edge_state (tab (mark d σ) d.edges) false false u u hu hu decided_sound

    -- the list of a potential region
    module _ (x : Every (Holds σ) (potential_region d s u)) where
      leaving : (p g : ℕ) → p < d.vertices → g < d.edges → within d (potential d s) u p ≡ true → leaves d s (within d (potential d s) u) p g ≡ true → Holds σ (d.edge_lit g)
      unfolding potential_region
      leaving p g hp hg a b =
          let y = every_collect _ d.vertices p hp x in
          let z = every_collect _ d.edges g hg (rw (pick_yes _ _ a) at y) in
          every_head (rw (pick_yes _ _ b) at z)

      crosses : (p q g : ℕ) → Leads (graph_of d σ) d.edges g p q → get_or s.edge_state g 0 ≡ 1 → within d (potential d s) u q ≡ false →
          leaves d s (within d (potential d s) u) p g ≡ true
      unfolding leaves
      crosses p q g l y n =
          ⊎_elim (λ w. rw (eq-eqb _ _ y, eq-eqb _ _ w.0, ap (within d (potential d s) u) w.1, n) refl)
          (λ w. rw (eq-eqb _ _ y, eq-eqb _ _ w.0, ap (within d (potential d s) u) w.1, n) (or-true (eqb (left d g) p && not (within d (potential d s) u (right d g)))))
          l.ends

      crossed : (p q g : ℕ) → p < d.vertices → Leads (graph_of d σ) d.edges g p q → within d (potential d s) u p ≡ true → within d (potential d s) u q ≡ true
      unfolding passes
      crossed p q g hp l a = go (within d (potential d s) u q) refl
        where
          go : (t : Bool) → within d (potential d s) u q ≡ t → t ≡ true
          go true e = refl
          go false e =
              ⊎_elim (λ (y : get_or s.edge_state g 0 ≡ 1). absurd (connected_fails g l.known l.passed (leaving p g hp l.known a (crosses p q g l y e))))
              (λ (y : get_or s.edge_state g 0 ≡ 1 → ⊥).
              let j = within_joined d k s.edge_state true u hu p a in
              let m : Joined (potential d s) d.edges u q = (g ∷ j.0, there g j.1 (record { known = l.known; passed = ap not (ne_eqb _ _ y); ends = l.ends })) in
              sym e ∙ joined_within d k s.edge_state true u hu q m)
              (eq_or_not (get_or s.edge_state g 0) 1)

      -- all that the division joins to a vertex of the potential region is in it
      pub potential_from : (p q : ℕ) → Near d s u p → Together d σ p q → Near d s u q
      potential_from p q n j = within_joined d k s.edge_state true u hu q (go j.1)
        where
          hp : p < d.vertices
          hp = joined_below k.fine hu n

          go : {l : List ℕ} {q : ℕ} → Chain (graph_of d σ) d.edges p l q → within d (potential d s) u q ≡ true
          go here = joined_within d k s.edge_state true u hu p n
          go (there {q = q} {r = r} {l = l} g c w) = crossed q r g (joined_below k.fine hp (l, c)) w (go c)

      pub potential_sound : (q : ℕ) → Together d σ u q → Near d s u q
      potential_sound q j = potential_from u q (joined_refl u) j

      pub potential_weight_lem : region_weight d σ u ≤ potential_weight d s u
      potential_weight_lem = weight_le d k (tab (mark d σ) d.edges) s.edge_state false true u u hu hu potential_sound

pub rising_le : (d : Plan) (k : Proper d) (v : ℕ) → v < d.vertices → (i j : ℕ) → i ≤ j → j < d.domain_len v → d.domain v i ≤ d.domain v j
rising_le d k v hv i zero h m = let e : i ≡ 0 = omega arith in rw e (le_refl _)
rising_le d k v hv i (suc j) h m =
    ⊎_elim (λ (e : i ≡ suc j). rw e (le_refl _)) (λ (l : i < suc j). omega (arith, rising_le d k v hv i j (omega arith) (omega arith), k.rising v j hv m)) (eq-or-lt_of_le h)

module _ (d : Plan) (σ : ℕ → Bool) (k : Proper d) (y : Computed d σ) (v : ℕ) (hv : v < d.vertices) where
  -- a weight above an entry is at least the next
  pub next_up : (j : ℕ) → suc j < d.domain_len v → d.domain v j < region_weight d σ v → d.domain v (suc j) ≤ region_weight d σ v
  next_up j h l =
      let (i, m, e) = y.inside v hv (omega arith) in
      ⊎_elim (λ (z : i ≤ j). absurd (omega (arith, rising_le d k v hv i j z (omega arith)))) (λ (z : j < i). omega (arith, rising_le d k v hv (suc j) i z m)) (le_or_lt i j)

  pub low_sound : {b : ℕ} {ls : List ℕ} → Lower d v b ls → Every (Holds σ) ls → b ≤ region_weight d σ v
  low_sound (Lower.free a e q) x = rw e zero-le
  low_sound (Lower.least a e q) x = let (i, m, z) = y.inside v hv a in omega (arith, rising_le d k v hv 0 i zero-le m)
  low_sound (Lower.lit j a e q) x = rw e ((y.meant v j hv a).0 (every_only q x))

  region_most : region_weight d σ v ≤ 64000000
  unfolding weight_from
  region_most = omega (arith, total_most (within d (graph_of d σ) v) d.weight 1000000 d.vertices k.light, k.fine.vertices)

  pub high_sound : {b : ℕ} {ls : List ℕ} → Upper d v b ls → Every (Holds σ) ls → region_weight d σ v ≤ b
  high_sound (Upper.free a e q) x = omega (arith, region_most)
  high_sound (Upper.last n a e q) x = let (i, m, z) = y.inside v hv (omega arith) in omega (arith, rising_le d k v hv i n (omega arith) (omega arith))
  high_sound (Upper.lit j a e q) x = ⊎_elim (λ (z : region_weight d σ v ≤ d.domain v j). rw e z)
      (λ (z : d.domain v j < region_weight d σ v). absurd (negate_fails σ (d.dom_lit v j) (every_only q x) ((y.meant v j hv a).1 (next_up j a z))))
      (le_or_lt _ _)
