-- What `compute_view` stores is the view of the state that the noted words stand for.
use Prim.Native.Nat.{ℕ, zero, suc, ◌+◌, ◌<◌, ◌≤◌}
use native.Mathlib.Omega.{arith}
use native.Mathlib.Nat.{le_step, lt-suc_self}
use mathlib.Core.Path.{◌≡◌, refl, sym, ap, ap₂, ◌∙◌, subst}
use mathlib.Core.Bool.{Bool, true, false, ◌&&◌}
use mathlib.Core.List.{List, [], ◌∷◌, ◌++◌}
use lib.Dec.{eqb, ltb}
use lib.ListN.{length, get_or, length-replicate}
use borrow.Author.Tests.{lt-ltb, le-ltb}
use Rattle.base.specs.Iter.{iter, pick}
use Rattle.base.specs.Lists.{Every, total, collect}
use Rattle.base.proofs.Loop.{pick_yes, pick_no}
use Rattle.base.proofs.Filled.{filled_length, filled_in}
use Rattle.graph.specs.Search.{Graph, graph}
use Rattle.graph.specs.Bounds.{walkable}
use Rattle.graph.specs.Lists.{number_of}
use Rattle.graph.proofs.Lists.{every_all, and_both}
use Rattle.graph.proofs.Walkable.{fine_walkable}
use Rattle.regions.specs.Labels.{label_of, labelled, regions_of, Labelled}
use Rattle.regions.specs.Buckets.{labels_below, weighable, weighed, Spot, spot, least_in, most_in, tightest, Marks, marks, bounds_of}
use Rattle.regions.proofs.Labels.{labelled_regions}
use Rattle.regions.proofs.Buckets.{poured_weight}
use Rattle.regions.proofs.Spots.{spot_at, claimed_spot, tightest_least, tightest_most}
use Rattle.division.specs.Plan.{Plan, Proper}
use Rattle.division.specs.Regions.{region_label}
use Rattle.division.specs.State.{State, decided, potential}
use Rattle.division.specs.Views.{weight_of, cells_of, sorted, view_of}
use Rattle.division.specs.Analysis.{View, analyzed}
use Rattle.division.proofs.Labels.{labels_agree}
use Rattle.division.specs.Agree.{SameView}
use Rattle.division.proofs.Agree.{InRange, pick_same, analyzed_same, view_in_range}
use Rattle.division.proofs.Alike.{same_refl}
use Rattle.plan.specs.Words.{entry, vertices_of, edges_of, weight_of as weight_at, domain_len_of, domain_of, same_size_of, extra_walls_of}
use Rattle.plan.specs.Proper.{ProperWords}
use Rattle.noting.specs.Words.{bound_at, lower_of, upper_of, state_of}
use Rattle.views.specs.declared.compute.Regions.{Regions}
use Rattle.views.specs.declared.compute.Bounds.{Bounds}
use Rattle.views.specs.Words.{decided_region_of, potential_region_of, shown}
use Rattle.views.proofs.Rows.{rows, row_0, row_64, row_128, row_192, row_256, row_320, row_384, row_448}
use Rattle.views.specs.Compute.{zeros, weight_words, regions_from, bounds_from, Computed, computed_of, compute_view}

-- the plan of the words with any literals in place of its own
abbrev pub plan_with : List ℕ → List (List ℕ) → (ℕ → ℕ) → (ℕ → ℕ → ℕ) → Plan
plan_with ws ends edgeLit domLit = record {
  vertices = vertices_of ws;
  edges = edges_of ws;
  ends = ends;
  edge_lit = edgeLit;
  weight = weight_at ws;
  domain_len = domain_len_of ws;
  domain = domain_of ws;
  dom_lit = domLit;
  disallow_adjacent_same_size_regions = same_size_of ws;
  allow_extra_walls = extra_walls_of ws;
}

iter_same : {A : Type 0} (f g : ℕ → A → A) (n : ℕ) (a : A) → ((i : ℕ) → i < n → (x : A) → f i x ≡ g i x) → iter f n a ≡ iter g n a
unfolding iter
iter_same f g zero a h = refl
iter_same f g (suc n) a h = ap (f n) (iter_same f g n a (λ i l x. h i (le_step l) x)) ∙ h n (lt-suc_self n) _

total_same : (b c : ℕ → Bool) (w x : ℕ → ℕ) (n : ℕ) → ((i : ℕ) → i < n → b i ≡ c i) → ((i : ℕ) → i < n → w i ≡ x i) → total b w n ≡ total c x n
unfolding total
total_same b c w x zero h k = refl
total_same b c w x (suc n) h k =
    ap₂ ◌+◌ (total_same b c w x n (λ i l. h i (le_step l)) (λ i l. k i (le_step l)))
    (ap₂ (λ (z : Bool) (y : ℕ). pick z y 0) (h n (lt-suc_self n)) (k n (lt-suc_self n)))

collect_same : (f g : ℕ → List ℕ) (n : ℕ) → ((i : ℕ) → i < n → f i ≡ g i) → collect f n ≡ collect g n
unfolding collect
collect_same f g zero h = refl
collect_same f g (suc n) h = ap₂ ◌++◌ (collect_same f g n (λ i l. h i (le_step l))) (h n (lt-suc_self n))

-- the labels and the bounds are read of vertices only
pub least_same : (id id' b b' : ℕ → ℕ) (r n : ℕ) → ((i : ℕ) → i < n → id i ≡ id' i) → ((i : ℕ) → i < n → b i ≡ b' i) → least_in id b r n ≡ least_in id' b' r n
unfolding least_in
least_same id id' b b' r n p q =
    iter_same _ _ n _ (λ i l (a : Spot). pick_same _ _ (ap₂ ◌&&◌ (ap (λ z. eqb z r) (p i l)) (ap (λ z. ltb z a.bound) (q i l))) (λ _. ap (λ z. spot z i) (q i l)) refl)

pub most_same : (id id' b b' : ℕ → ℕ) (r n : ℕ) → ((i : ℕ) → i < n → id i ≡ id' i) → ((i : ℕ) → i < n → b i ≡ b' i) → most_in id b r n ≡ most_in id' b' r n
unfolding most_in
most_same id id' b b' r n p q =
    iter_same _ _ n _ (λ i l (a : Spot). pick_same _ _ (ap₂ ◌&&◌ (ap (λ z. eqb z r) (p i l)) (ap (ltb a.bound) (q i l))) (λ _. ap (λ z. spot z i) (q i l)) refl)

pub cells_same : (d : Plan) (s : State) (id id' : ℕ → ℕ) (r : ℕ) → ((i : ℕ) → i < d.vertices → id i ≡ id' i) → cells_of d s id r ≡ cells_of d s id' r
unfolding cells_of
cells_same d s id id' r h =
    ap (sorted s) (collect_same _ _ d.vertices (λ p l. ap (λ z. pick (eqb z r && ltb 0 (d.domain_len p)) (p ∷ []) []) (h p l)))

-- views that agree name the same vertices
pub same_in_range : (d : Plan) (w x : View) → SameView d w x → InRange d x → InRange d w
same_in_range d w x q r = record {
  did = λ v h. subst (λ (i : ℕ). i < d.vertices) (sym (q.did v h)) (r.did v h);
  pid = λ v h. subst (λ (i : ℕ). i < d.vertices) (sym (q.pid v h)) (r.pid v h);
  up_at = λ v h. subst (λ (i : ℕ). i < d.vertices) (sym (q.up_at v h)) (r.up_at v h);
  low_at = λ v h. subst (λ (i : ℕ). i < d.vertices) (sym (q.low_at v h)) (r.low_at v h);
  members = λ v h. subst (Every (λ i. i < d.vertices)) (sym (q.members v h)) (r.members v h);
  cells = λ v h. subst (Every (λ i. i < d.vertices)) (sym (q.cells v h)) (r.cells v h);
}

below_true : (l words : List ℕ) (first n : ℕ) → n ≤ 64 → first + n ≤ length words → ((v : ℕ) → v < n → label_of l v < n) → labels_below l words first n ≡ true
unfolding labels_below
below_true l words first n a b c =
    pick_no _ _ (le-ltb 64 n a) ∙ pick_no _ _ (le-ltb (length words) (first + n) b) ∙ every_all (λ v. ltb (label_of l v) n) n (λ v h. lt-ltb _ _ (c v h))

zeros_length : length zeros ≡ 64
zeros_length = length-replicate {0} {A = ℕ} 64 0

pub entry_at : (from : ℕ) (w : List ℕ) (i : ℕ) → i < 64 → entry from 64 w i ≡ get_or w (from + i) 0
unfolding entry
entry_at from w i h = pick_yes _ _ (lt-ltb i 64 h)

pub bound_at_lem : (from past : ℕ) (w : List ℕ) (i : ℕ) → i < 64 → number_of w from i ≡ bound_at from past w i
unfolding bound_at
bound_at_lem from past w i h = sym (pick_yes _ _ (lt-ltb i 64 h))

module _ (ws : List ℕ) (ends : List (List ℕ)) (p : ProperWords ws ends) (noted : List ℕ) (len : length noted ≡ 384) (edgeLit : ℕ → ℕ) (domLit : ℕ → ℕ → ℕ) where
  abbrev n : ℕ
  n = vertices_of ws

  abbrev d : Plan
  d = plan_with ws ends edgeLit domLit

  abbrev s : State
  s = state_of noted

  pub proper_with : Proper d
  proper_with = record { fine = p.fine; light = p.light; entries = p.entries; rising = p.rising }

  walks : walkable ends noted (edges_of ws) n ≡ true
  walks = fine_walkable ends noted _ _ p.fine (omega (arith, p.fine.fits))

  weight_at_lem : (v : ℕ) → v < n → number_of (weight_words ws) 0 v ≡ weight_at ws v
  unfolding weight_words
  weight_at_lem v h = filled_in 0 (weight_at ws) zeros 64 v (omega (arith, p.fine.vertices)) (omega (arith, zeros_length))

  weight_room : length (weight_words ws) ≡ 64
  unfolding weight_words
  weight_room = filled_length 0 (weight_at ws) zeros 64 ∙ zeros_length

  -- the decided or the potential regions
  module _ (po : Bool) where
    abbrev g : Graph
    g = graph ends noted po

    abbrev l : List ℕ
    l = (regions_from ws ends noted po).labels

    labels_are : l ≡ labelled g (edges_of ws) n zeros
    unfolding regions_from regions_of
    labels_are = pick_yes _ _ walks

    labels_right : Labelled g (edges_of ws) n l
    labels_right = subst (Labelled g (edges_of ws) n) (sym labels_are) (labelled_regions g (edges_of ws) n p.fine zeros (omega (arith, zeros_length, p.fine.vertices)))

    label_low : (v : ℕ) → v < n → label_of l v < n
    label_low v h = omega (arith, labels_right.below v h)

    pub label_is : (v : ℕ) → v < n → label_of l v ≡ region_label d g v
    label_is v h = labels_agree d proper_with noted po l labels_right v h

    can_weigh : weighable l (weight_words ws) 0 n ≡ true
    unfolding weighable
    can_weigh =
        and_both _ _ (below_true l (weight_words ws) 0 n p.fine.vertices (omega (arith, weight_room, p.fine.vertices)) label_low)
        (every_all (λ v. ltb (number_of (weight_words ws) 0 v) 1000001) n (λ v h. lt-ltb (number_of (weight_words ws) 0 v) 1000001 (omega (arith, weight_at_lem v h, p.light v h))))

    regions_known : (regions_from ws ends noted po).known ≡ true
    unfolding regions_from
    regions_known = pick_yes _ _ walks ∙ can_weigh

    pub weight_is : (r : ℕ) → r < n →
        get_or (regions_from ws ends noted po).weights r 0 ≡ weight_of d (region_label d g) r
    unfolding regions_from weighed weight_of Rattle.regions.specs.Buckets.weight_of
    weight_is r h =
        ap (λ (z : List ℕ). get_or z r 0) (pick_yes _ _ can_weigh) ∙ poured_weight l (number_of (weight_words ws) 0) n zeros (omega (arith, zeros_length, p.fine.vertices)) label_low r h ∙
        total_same _ _ _ _ n (λ i k. ap (λ z. eqb z r) (label_is i k)) weight_at_lem

  abbrev dl : List ℕ
  dl = (regions_from ws ends noted false).labels

  -- the bounds
  module _ (first : ℕ) (upper : Bool) (fits : first + 64 ≤ 384) where
    can_bound : labels_below dl noted first n ≡ true
    can_bound = below_true dl noted first n p.fine.vertices (omega (arith, p.fine.vertices)) (label_low false)

    bounds_known : (bounds_from dl noted first n upper).known ≡ true
    unfolding bounds_from
    bounds_known = can_bound

    spot_is : (r : ℕ) → r < n → spot (get_or (bounds_from dl noted first n upper).bounds r 0) (get_or (bounds_from dl noted first n upper).holders r 0) ≡ tightest upper dl (number_of noted first) r n
    unfolding bounds_from bounds_of
    spot_is r h =
        ap (λ (x : Marks). spot_at x r) (pick_yes _ _ can_bound) ∙
        claimed_spot upper dl (number_of noted first) n (marks zeros zeros) (omega (arith, zeros_length, p.fine.vertices)) (omega (arith, zeros_length, p.fine.vertices)) (label_low false) r h

  low_at : (v : ℕ) → v < n → number_of noted 128 v ≡ lower_of noted v
  low_at v h = bound_at_lem 128 0 noted v (omega (arith, p.fine.vertices))

  up_at : (v : ℕ) → v < n → number_of noted 192 v ≡ upper_of noted v
  up_at v h = bound_at_lem 192 0 noted v (omega (arith, p.fine.vertices))

  pub upper_is : (r : ℕ) → r < n →
      spot (get_or (bounds_from dl noted 192 n true).bounds r 0) (get_or (bounds_from dl noted 192 n true).holders r 0)
      ≡ least_in (region_label d (decided d s)) (upper_of noted) r n
  upper_is r h = spot_is 192 true (omega arith) r h ∙ tightest_least dl (number_of noted 192) r n ∙ least_same _ _ _ _ r n (label_is false) up_at

  pub lower_is : (r : ℕ) → r < n →
      spot (get_or (bounds_from dl noted 128 n false).bounds r 0) (get_or (bounds_from dl noted 128 n false).holders r 0)
      ≡ most_in (region_label d (decided d s)) (lower_of noted) r n
  lower_is r h = spot_is 128 false (omega arith) r h ∙ tightest_most dl (number_of noted 128) r n ∙ most_same _ _ _ _ r n (label_is false) low_at

  -- the words after it
  module _ (view : List ℕ) (room : length view ≡ 512) where
    abbrev pub view_words : List ℕ
    view_words = (compute_view ws ends noted view).words

    abbrev decided_in : Regions
    decided_in = regions_from ws ends noted false

    abbrev potential_in : Regions
    potential_in = regions_from ws ends noted true

    abbrev uppers : Bounds
    uppers = bounds_from dl noted 192 n true

    abbrev lowers : Bounds
    lowers = bounds_from dl noted 128 n false

    is_computed : compute_view ws ends noted view ≡ computed_of true (rows decided_in potential_in uppers lowers view room)
    unfolding compute_view
    is_computed =
        pick_yes _ _ (and_both _ _ (regions_known false) (and_both _ _ (regions_known true) (and_both _ _ (bounds_known 192 true (omega arith)) (bounds_known 128 false (omega arith)))))

    -- what an accessor reads
    reads : (from : ℕ) (i x : ℕ) → i < 64 → get_or (rows decided_in potential_in uppers lowers view room) (from + i) 0 ≡ x → entry from 64 view_words i ≡ x
    reads from i x h e = entry_at from view_words i h ∙ ap (λ (y : Computed). get_or y.words (from + i) 0) is_computed ∙ e

    low64 : (v : ℕ) → v < n → v < 64
    low64 v h = omega (arith, p.fine.vertices)

    -- the answer is true
    pub viewed_done : (compute_view ws ends noted view).done ≡ true
    viewed_done = ap (λ (y : Computed). y.done) is_computed

    -- the view that the words stand for is that of the state
    pub viewed_same : SameView d (shown d s view_words) (view_of d s)
    unfolding view_of
    viewed_same = record {
      did = λ v h. did_is v h;
      pid = λ v h. pid_is v h;
      dw = λ r h. reads 128 r _ (low64 r h) (row_128 decided_in potential_in uppers lowers view room r (low64 r h)) ∙ weight_is false r h;
      pw = λ r h. reads 192 r _ (low64 r h) (row_192 decided_in potential_in uppers lowers view room r (low64 r h)) ∙ weight_is true r h;
      up = λ r h. reads 256 r _ (low64 r h) (row_256 decided_in potential_in uppers lowers view room r (low64 r h)) ∙ ap (λ (a : Spot). a.bound) (upper_is r h);
      up_at = λ r h. reads 320 r _ (low64 r h) (row_320 decided_in potential_in uppers lowers view room r (low64 r h)) ∙ ap (λ (a : Spot). a.vertex) (upper_is r h);
      low = λ r h. reads 384 r _ (low64 r h) (row_384 decided_in potential_in uppers lowers view room r (low64 r h)) ∙ ap (λ (a : Spot). a.bound) (lower_is r h);
      low_at = λ r h. reads 448 r _ (low64 r h) (row_448 decided_in potential_in uppers lowers view room r (low64 r h)) ∙ ap (λ (a : Spot). a.vertex) (lower_is r h);
      members = λ r h. refl;
      cells = λ r h. cells_same d s _ _ r pid_is;
    }
      where
        did_is : (v : ℕ) → v < n → decided_region_of view_words v ≡ region_label d (decided d s) v
        did_is v h = reads 0 v _ (low64 v h) (row_0 decided_in potential_in uppers lowers view room v (low64 v h)) ∙ label_is false v h

        pid_is : (v : ℕ) → v < n → potential_region_of view_words v ≡ region_label d (potential d s) v
        pid_is v h = reads 64 v _ (low64 v h) (row_64 decided_in potential_in uppers lowers view room v (low64 v h)) ∙ label_is true v h

    -- and so the analysis of it is that of the state's view
    pub viewed : ((compute_view ws ends noted view).done ≡ true) × (analyzed d s (shown d s view_words) ≡ analyzed d s (view_of d s))
    viewed = (viewed_done, analyzed_same d proper_with s s (shown d s view_words) (view_of d s) (same_refl d s) viewed_same (view_in_range d proper_with s))

    -- every vertex and every label that the words name is a vertex of the plan
    pub viewed_in_range : InRange d (shown d s view_words)
    viewed_in_range = same_in_range d _ _ viewed_same (view_in_range d proper_with s)

    -- the same of what `compute_view` answers and leaves
    pub viewed_after : (r : Bool) (w : List ℕ) → computed_of r w ≡ compute_view ws ends noted view →
        (r ≡ true) × SameView d (shown d s w) (view_of d s) × (analyzed d s (shown d s w) ≡ analyzed d s (view_of d s))
    viewed_after r w e =
        let q : view_words ≡ w = ap (λ (y : Computed). y.words) (sym e) in (
          ap (λ (y : Computed). y.done) e ∙ viewed_done,
          subst (λ (z : List ℕ). SameView d (shown d s z) (view_of d s)) q viewed_same,
          subst (λ (z : List ℕ). analyzed d s (shown d s z) ≡ analyzed d s (view_of d s)) q viewed.1,
        )
