-- For the layer below: states that agree on the plan have one view, one analysis, and the same lists.
use Prim.Native.Nat.{ℕ, zero, suc, pred, ◌+◌, ◌<◌}
use native.Mathlib.Nat.{le_step, lt-suc_self}
use mathlib.Core.Path.{◌≡◌, refl, ◌∙◌, ap, ap₂, sym}
use mathlib.Core.Bool.{Bool, true, false, not, ◌&&◌, ◌||◌}
use mathlib.Core.List.{List, [], ◌∷◌, ◌++◌, map}
use lib.Dec.{eqb, ltb}
use lib.ListN.{get_or}
use Rattle.base.specs.Iter.{iter, pick}
use Rattle.base.specs.Lists.{Every, none, more, collect, tab, total}
use Rattle.base.proofs.Loop.{pick_ind}
use Rattle.base.proofs.Lists.{collect_every, every_map, tab_at}
use Rattle.graph.specs.Search.{Scan, at, edge_to, reached_yet, Graph, graph, visited, popped, searched_on, searched, passes}
use Rattle.graph.specs.Paths.{climb}
use Rattle.regions.specs.Buckets.{Spot, least_in, most_in}
use Rattle.division.specs.Noting.{Bound, note_one, turn, raise, lessen}
use Rattle.division.specs.Plan.{Plan, Proper, left, right}
use Rattle.division.specs.Regions.{within, region_label}
use Rattle.division.specs.State.{State, decided, potential}
use Rattle.division.specs.Reasons.{connected_lit, connected_path, decided_region, leaves, potential_region, Reason, list_of, edge_in_same_group, edge_between_different_groups, too_large_if_regions_are_merged, region_already_large, region_already_small, inconsistent_bounds_if_regions_are_merged, bound_propagation_within_region, adjacent_same_size_regions}
use Rattle.division.specs.Conflicts.{spans, Conflict, conflict_list}
use Rattle.division.specs.Analysis.{analyzed}
use Rattle.division.specs.Views.{weight_of, earlier, insert, sorted, cells_of, members_of, view_of}
use Rattle.division.proofs.Walk.{joined_below}
use Rattle.division.proofs.Views.{sorted_every}
use Rattle.division.specs.Proposed.{IsConflict, is_disconnected, is_crossing, is_over, is_under, is_crowded, is_apart}
use Rattle.division.specs.Agree.{SameState, SameView}
use Rattle.division.proofs.Agree.{pick_same, lowest_same, analyzed_same, view_in_range}

iter_same : {A : Type 0} (f g : ℕ → A → A) (n : ℕ) (a : A) → ((i : ℕ) → i < n → (x : A) → f i x ≡ g i x) → iter f n a ≡ iter g n a
unfolding iter
iter_same f g zero a h = refl
iter_same f g (suc n) a h = ap (f n) (iter_same f g n a (λ i l x. h i (le_step l) x)) ∙ h n (lt-suc_self n) _

total_same : (b c : ℕ → Bool) (w : ℕ → ℕ) (n : ℕ) → ((i : ℕ) → i < n → b i ≡ c i) → total b w n ≡ total c w n
unfolding total
total_same b c w zero h = refl
total_same b c w (suc n) h = ap₂ ◌+◌ (total_same b c w n (λ i l. h i (le_step l))) (ap (λ z. pick z (w n) 0) (h n (lt-suc_self n)))

collect_same : (f g : ℕ → List ℕ) (n : ℕ) → ((i : ℕ) → i < n → f i ≡ g i) → collect f n ≡ collect g n
unfolding collect
collect_same f g zero h = refl
collect_same f g (suc n) h = ap₂ ◌++◌ (collect_same f g n (λ i l. h i (le_step l))) (h n (lt-suc_self n))

-- a search reads the states of the plan's edges only
module _ (es : List (List ℕ)) (st st' : List ℕ) (po : Bool) (edges : ℕ) (same : (g : ℕ) → g < edges → get_or st g 0 ≡ get_or st' g 0) where
  abbrev e : Graph
  e = graph es st po

  abbrev e' : Graph
  e' = graph es st' po

  visited_same : (p g : ℕ) → g < edges → (s : Scan) → visited e p g s ≡ visited e' p g s
  unfolding visited
  visited_same p g h s = pick_same _ _ (ap (passes po) (same g h)) (λ _. refl) refl

  popped_same : (h : ℕ) (s : Scan) → popped e edges h s ≡ popped e' edges h s
  unfolding popped
  popped_same h s = pick_same _ _ refl (λ _. iter_same (visited e (at s h)) (visited e' (at s h)) edges s (λ g l z. visited_same (at s h) g l z)) refl

  pub searched_same : (vertices u : ℕ) → searched e edges vertices u ≡ searched e' edges vertices u
  unfolding searched_on
  searched_same vertices u = iter_same (popped e edges) (popped e' edges) vertices _ (λ h l s. popped_same h s)

-- the two vertices whose bounds are read when the reason is fetched are the plan's
abbrev pub Names : Plan → Reason → Type 0
Names d (edge_in_same_group g) = Unit {0}
Names d (edge_between_different_groups i g f) = Unit {0}
Names d (too_large_if_regions_are_merged g ls) = Unit {0}
Names d (region_already_large v) = Unit {0}
Names d (region_already_small v) = Unit {0}
Names d (inconsistent_bounds_if_regions_are_merged g a b f) = (a < d.vertices) × (b < d.vertices)
Names d (bound_propagation_within_region p u ls) = Unit {0}
Names d (adjacent_same_size_regions a la ua b lb ub u) = Unit {0}

module _ (d : Plan) (k : Proper d) (s t : State) (q : SameState d s t) where
  pub found_same : (po : Bool) (u : ℕ) → searched (graph d.ends s.edge_state po) d.edges d.vertices u ≡ searched (graph d.ends t.edge_state po) d.edges d.vertices u
  found_same po u = searched_same d.ends s.edge_state t.edge_state po d.edges q.edge d.vertices u

  pub within_same : (po : Bool) (u i : ℕ) → within d (graph d.ends s.edge_state po) u i ≡ within d (graph d.ends t.edge_state po) u i
  unfolding within
  within_same po u i = ap (λ (f : Scan). reached_yet f i) (found_same po u)

  label_same : (po : Bool) (u : ℕ) → region_label d (graph d.ends s.edge_state po) u ≡ region_label d (graph d.ends t.edge_state po) u
  unfolding region_label
  label_same po u = lowest_same _ _ d.vertices (λ i l. within_same po u i)

  weight_same : (po : Bool) (r : ℕ) → weight_of d (region_label d (graph d.ends s.edge_state po)) r ≡ weight_of d (region_label d (graph d.ends t.edge_state po)) r
  unfolding weight_of
  weight_same po r = total_same _ _ d.weight d.vertices (λ i l. ap (λ z. eqb z r) (label_same po i))

  least_same : (r : ℕ) → least_in (region_label d (decided d s)) s.upper r d.vertices ≡ least_in (region_label d (decided d t)) t.upper r d.vertices
  unfolding least_in
  least_same r =
      iter_same _ _ d.vertices _ (λ i l (a : Spot). pick_same _ _ (ap₂ ◌&&◌ (ap (λ z. eqb z r) (label_same false i)) (ap (λ z. ltb z a.bound) (q.upper i l)))
      (λ _. ap (λ z. record { bound = z; vertex = i }) (q.upper i l)) refl)

  most_same : (r : ℕ) → most_in (region_label d (decided d s)) s.lower r d.vertices ≡ most_in (region_label d (decided d t)) t.lower r d.vertices
  unfolding most_in
  most_same r =
      iter_same _ _ d.vertices _ (λ i l (a : Spot). pick_same _ _ (ap₂ ◌&&◌ (ap (λ z. eqb z r) (label_same false i)) (ap (ltb a.bound) (q.lower i l)))
      (λ _. ap (λ z. record { bound = z; vertex = i }) (q.lower i l)) refl)

  abbrev Low : ℕ → Type 0
  Low p = p < d.vertices

  earlier_same : (p r : ℕ) → Low p → Low r → earlier s p r ≡ earlier t p r
  unfolding earlier
  earlier_same p r hp hr =
      let up = q.upper p hp in
      let ur = q.upper r hr in
      let lp = q.lower p hp in
      let lr = q.lower r hr in
      ap₂ ◌||◌ (ap₂ ltb up ur) (ap₂ ◌&&◌ (ap₂ eqb up ur) (ap₂ ◌||◌ (ap₂ ltb lr lp) (ap (λ b. b && ltb p r) (ap₂ eqb lp lr))))

  insert_same : (p : ℕ) (ps : List ℕ) → Low p → Every Low ps → insert s p ps ≡ insert t p ps
  unfolding insert
  insert_same p [] h none = refl
  insert_same p (r ∷ rs) h (more y z) = pick_same _ _ (earlier_same p r h y) (λ _. refl) (ap (λ (l : List ℕ). r ∷ l) (insert_same p rs h z))

  sorted_same : (ps : List ℕ) → Every Low ps → sorted s ps ≡ sorted t ps
  unfolding sorted
  sorted_same [] none = refl
  sorted_same (p ∷ ps) (more y z) = ap (insert s p) (sorted_same ps z) ∙ insert_same p (sorted t ps) y (sorted_every t ps z)

  cells_same : (r : ℕ) → cells_of d s (region_label d (potential d s)) r ≡ cells_of d t (region_label d (potential d t)) r
  unfolding cells_of
  cells_same r =
      ap (sorted s) (collect_same _ _ d.vertices (λ p l. ap (λ b. pick (b && ltb 0 (d.domain_len p)) (p ∷ []) []) (ap (λ z. eqb z r) (label_same true p)))) ∙
      sorted_same _ (collect_every _ d.vertices (λ p l. pick_ind (Every Low) _ _ _ (λ _. more l none) (λ _. none)))

  pub view_same : SameView d (view_of d s) (view_of d t)
  unfolding view_of members_of
  view_same = record {
    did = λ v h. label_same false v;
    pid = λ v h. label_same true v;
    dw = λ r h. weight_same false r;
    pw = λ r h. weight_same true r;
    up = λ r h. ap (λ (a : Spot). a.bound) (least_same r);
    up_at = λ r h. ap (λ (a : Spot). a.vertex) (least_same r);
    low = λ r h. ap (λ (a : Spot). a.bound) (most_same r);
    low_at = λ r h. ap (λ (a : Spot). a.vertex) (most_same r);
    members = λ r h. members_same r;
    cells = λ r h. cells_same r;
  }
    where
      members_same : (r : ℕ) → members_of d (decided d s) r ≡ members_of d (decided d t) r
      members_same r = ap (λ (f : Scan). tab (λ i. at f i) f.count) (found_same false r)

  -- one analysis
  pub analysis_same : analyzed d s (view_of d s) ≡ analyzed d t (view_of d t)
  analysis_same = analyzed_same d k s t (view_of d s) (view_of d t) q view_same (view_in_range d k t)

  -- the same walks
  pub path_same : (u v : ℕ) → connected_path d s u v ≡ connected_path d t u v
  unfolding connected_path
  path_same u v = ap (λ (f : Scan). map (connected_lit d) (climb f u d.vertices v)) (found_same false u)

  pub decided_same : (u : ℕ) → decided_region d s u ≡ decided_region d t u
  unfolding decided_region
  decided_same u = ap (λ (f : Scan). collect (λ i. connected_lit d (edge_to f (at f (suc i))) ∷ []) (pred f.count)) (found_same false u)

  leaves_same : (u p g : ℕ) → g < d.edges → leaves d s (within d (potential d s) u) p g ≡ leaves d t (within d (potential d t) u) p g
  unfolding leaves
  leaves_same u p g h =
      ap₂ ◌&&◌ (ap (λ z. eqb z 1) (q.edge g h))
      (ap₂ ◌||◌ (ap (λ b. eqb (left d g) p && not b) (within_same true u (right d g))) (ap (λ b. eqb (right d g) p && not b) (within_same true u (left d g))))

  pub potential_same : (u : ℕ) → potential_region d s u ≡ potential_region d t u
  unfolding potential_region
  potential_same u =
      collect_same _ _ d.vertices (λ p l. pick_same _ _ (within_same true u p)
      (λ _. collect_same _ _ d.edges (λ g h. ap (λ b. pick b (d.edge_lit g ∷ []) []) (leaves_same u p g h))) refl)

  spans_same : (ps : List ℕ) → Every Low ps → spans s ps ≡ spans t ps
  unfolding spans
  spans_same [] none = refl
  spans_same (p ∷ ps) (more h y) = ap₂ ◌++◌ (q.lower_lit p h) (ap₂ ◌++◌ (q.upper_lit p h) (spans_same ps y))

  -- the same lists, for a conflict of the analysis
  pub conflict_same : (c : Conflict) → IsConflict d t c → conflict_list d s c ≡ conflict_list d t c
  unfolding conflict_list
  conflict_same c (is_disconnected g h z j) = ap (λ (l : List ℕ). l ++ (d.edge_lit g ∷ [])) (path_same (left d g) (right d g))
  conflict_same c (is_crossing v h l) = ap₂ ◌++◌ (q.lower_lit v h) (q.upper_lit v h)
  conflict_same c (is_over v h l) = ap₂ ◌++◌ (decided_same v) (q.upper_lit v h)
  conflict_same c (is_under v h l) = ap₂ ◌++◌ (potential_same v) (q.lower_lit v h)
  conflict_same c (is_crowded r ps h n m a l) = ap₂ ◌++◌ (potential_same r) (spans_same ps (every_map (λ p j. joined_below k.fine h j) n))
  conflict_same c (is_apart p r hp hr j l) = ap₂ ◌++◌ (path_same p r) (ap₂ ◌++◌ (q.lower_lit p hp) (q.upper_lit r hr))

  -- and for a reason that names vertices
  pub list_same : (r : Reason) → Names d r → list_of d s r ≡ list_of d t r
  unfolding list_of
  list_same (edge_in_same_group g) n = path_same _ _
  list_same (edge_between_different_groups i g f) n = ap₂ ◌++◌ (path_same _ _) (ap (λ (z : List ℕ). z ++ (d.edge_lit i ∷ [])) (path_same _ _))
  list_same (too_large_if_regions_are_merged g ls) n = ap₂ ◌++◌ (decided_same _) (ap (λ (z : List ℕ). z ++ ls) (decided_same _))
  list_same (region_already_large v) n = decided_same v
  list_same (region_already_small v) n = potential_same v
  list_same (inconsistent_bounds_if_regions_are_merged g a b f) n =
      ap₂ ◌++◌ (path_same _ _) (ap₂ ◌++◌ (path_same _ _) (ap₂ ◌++◌ (q.upper_lit a n.0) (q.lower_lit b n.1)))
  list_same (bound_propagation_within_region p u ls) n = ap (λ (z : List ℕ). z ++ ls) (path_same p u)
  list_same (adjacent_same_size_regions a la ua b lb ub u) n =
      ap₂ ◌++◌ (decided_same a) (ap₂ ◌++◌ (decided_same b) (ap (λ (z : List ℕ). z ++ (la ++ (ua ++ (lb ++ ub)))) (decided_same u)))

pub same_refl : (d : Plan) (s : State) → SameState d s s
same_refl d s = record { edge = λ g h. refl; lower = λ v h. refl; upper = λ v h. refl; lower_lit = λ v h. refl; upper_lit = λ v h. refl }

pub same_trans : (d : Plan) (s t u : State) → SameState d s t → SameState d t u → SameState d s u
same_trans d s t u a b = record {
  edge = λ g h. a.edge g h ∙ b.edge g h;
  lower = λ v h. a.lower v h ∙ b.lower v h;
  upper = λ v h. a.upper v h ∙ b.upper v h;
  lower_lit = λ v h. a.lower_lit v h ∙ b.lower_lit v h;
  upper_lit = λ v h. a.upper_lit v h ∙ b.upper_lit v h;
}

bound_same : {a b : ℕ} {k l : List ℕ} → a ≡ b → k ≡ l → ◌≡◌ {A = Bound} (record { bound = a; lits = k }) (record { bound = b; lits = l })
bound_same p q = cc

-- noting keeps states alike
pub note_same : (d : Plan) (l : ℕ) (s t : State) → SameState d s t → SameState d (note_one d l s) (note_one d l t)
unfolding note_one
note_same d l s t q = record {
  edge = λ g h. tab_at _ d.edges g h ∙ ap (turn d l g) (q.edge g h) ∙ sym (tab_at _ d.edges g h);
  lower = λ v h. ap (λ (b : Bound). (raise d l v b).bound) (bound_same (q.lower v h) (q.lower_lit v h));
  upper = λ v h. ap (λ (b : Bound). (lessen d l v b).bound) (bound_same (q.upper v h) (q.upper_lit v h));
  lower_lit = λ v h. ap (λ (b : Bound). (raise d l v b).lits) (bound_same (q.lower v h) (q.lower_lit v h));
  upper_lit = λ v h. ap (λ (b : Bound). (lessen d l v b).lits) (bound_same (q.upper v h) (q.upper_lit v h));
}
