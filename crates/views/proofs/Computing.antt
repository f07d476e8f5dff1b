-- The returns of the functions that compute a view, over plain variables.
use Prim.Native.Nat.{ℕ, ◌+◌}
use mathlib.Core.Path.{◌≡◌, refl, sym, ap, ap₂, ◌∙◌}
use mathlib.Core.Bool.{Bool, true, false, ◌&&◌}
use mathlib.Core.List.{List}
use Rattle.base.specs.Iter.{pick}
use Rattle.base.specs.Lists.{filled}
use Rattle.base.proofs.Loop.{pick_yes, pick_no}
use Rattle.graph.specs.Search.{graph}
use Rattle.graph.specs.Bounds.{walkable}
use Rattle.graph.proofs.Lists.{and_both, and_no'}
use Rattle.regions.specs.Labels.{regions_of}
use Rattle.regions.specs.Buckets.{weighable, weighed}
use Rattle.plan.specs.Words.{word, vertices_of, edges_of}
use Rattle.views.specs.declared.compute.Regions.{Regions}
use Rattle.views.specs.declared.compute.Bounds.{Bounds}
use Rattle.views.specs.Compute.{zeros, weight_words, regions_from, bounds_from, weighed_from, view_from, with_regions, with_bounds, computed_of, compute_view}

abbrev pub regions_in : Bool → List ℕ → List ℕ → Regions
regions_in k l w = record { known = k; labels = l; weights = w }

regions_is : (ws : List ℕ) (es : List (List ℕ)) (noted : List ℕ) (po : Bool) (n e : ℕ) (wl l w : List ℕ) (k a : Bool) → n ≡ vertices_of ws → e ≡ edges_of ws →
    wl ≡ weight_words ws → k ≡ walkable es noted e n → l ≡ regions_of (graph es noted po) e n zeros → a ≡ weighable l wl 0 n → w ≡ weighed l wl 0 n zeros →
    regions_in (pick k a false) l w ≡ regions_from ws es noted po
unfolding regions_from
regions_is ws es noted po n e wl l w k a p q r s t u v = cc

-- the graph was walked, or it was not
module _ (ws : List ℕ) (es : List (List ℕ)) (noted : List ℕ) (po : Bool) (n e : ℕ) (wl l w : List ℕ) (k a : Bool) (p : n ≡ vertices_of ws) (q : e ≡ edges_of ws)
    (r : wl ≡ weight_words ws) (s : (k ≡ walkable es noted e n) × (l ≡ regions_of (graph es noted po) e n zeros)) (t : (a ≡ weighable l wl 0 n) × (w ≡ weighed l wl 0 n zeros)) where
  pub regions_walked : k ≡ true → regions_in a l w ≡ regions_from ws es noted po
  regions_walked h = ap (λ (b : Bool). regions_in b l w) (sym (pick_yes a false h)) ∙ regions_is ws es noted po n e wl l w k a p q r s.0 s.1 t.0 t.1

  pub regions_not : k ≡ false → regions_in false l w ≡ regions_from ws es noted po
  regions_not h = ap (λ (b : Bool). regions_in b l w) (sym (pick_no a false h)) ∙ regions_is ws es noted po n e wl l w k a p q r s.0 s.1 t.0 t.1

-- the labels are at hand
module _ (noted view : List ℕ) (n : ℕ) (d p : Regions) (u l : Bounds) (eu : u ≡ bounds_from d.labels noted 192 n true) (el : l ≡ bounds_from d.labels noted 128 n false) where
  whole : view_from noted n d p view ≡
      pick (d.known && (p.known && (u.known && l.known))) (computed_of true (with_bounds 384 l (with_bounds 256 u (with_regions 64 p (with_regions 0 d view))))) (computed_of false view)
  unfolding view_from
  whole = cc

  pub stored : (v1 v2 v3 v4 : List ℕ) → d.known ≡ true → p.known ≡ true → u.known ≡ true → l.known ≡ true → v1 ≡ with_regions 0 d view → v2 ≡ with_regions 64 p v1 →
      v3 ≡ with_bounds 256 u v2 → v4 ≡ with_bounds 384 l v3 → computed_of true v4 ≡ view_from noted n d p view
  stored v1 v2 v3 v4 a b c e f g h i =
      ap (computed_of true) (i ∙ ap (with_bounds 384 l) (h ∙ ap (with_bounds 256 u) (g ∙ ap (with_regions 64 p) f))) ∙
      sym (whole ∙ pick_yes _ _ (and_both _ _ a (and_both _ _ b (and_both _ _ c e))))

  stays : (d.known && (p.known && (u.known && l.known))) ≡ false → computed_of false view ≡ view_from noted n d p view
  stays e = sym (whole ∙ pick_no _ _ e)

  -- the decided regions are not known
  pub no_decided : d.known ≡ false → computed_of false view ≡ view_from noted n d p view
  no_decided e = stays (and_no' d.known _ e)

pub stored_regions : (from n : ℕ) (l wl w view v : List ℕ) → w ≡ weighed l wl 0 n zeros → v ≡ filled (from + 128) 64 (word w) (filled from 64 (word l) view) →
    v ≡ with_regions from (weighed_from l wl n) view
unfolding with_regions weighed_from
stored_regions from n l wl w view v e f = f ∙ ap (λ (x : List ℕ). filled (from + 128) 64 (word x) (filled from 64 (word l) view)) e

-- of labels that were made by a walk
pub view_walked : (ws : List ℕ) (es : List (List ℕ)) (noted view : List ℕ) (n e : ℕ) (wl l m : List ℕ) (k : Bool) → n ≡ vertices_of ws → e ≡ edges_of ws → wl ≡ weight_words ws →
    (k ≡ walkable es noted e n) × (l ≡ regions_of (graph es noted false) e n zeros) × (m ≡ regions_of (graph es noted true) e n zeros) → k ≡ true →
    view_from noted n (weighed_from l wl n) (weighed_from m wl n) view ≡ compute_view ws es noted view
unfolding view_from weighed_from compute_view
view_walked ws es noted view n e wl l m k p q r s t =
    ap₂ (λ (a b : Regions). view_from noted n a b view) (regions_walked ws es noted false n e wl l _ k _ p q r (s.0, s.1) (refl, refl) t) (regions_walked ws es noted true n e wl m _ k _ p q r (s.0, s.2) (refl, refl) t) ∙
    ap (λ (i : ℕ). view_from noted i (regions_from ws es noted false) (regions_from ws es noted true) view) p

pub view_not : (ws : List ℕ) (es : List (List ℕ)) (noted view : List ℕ) (n e : ℕ) (k : Bool) → n ≡ vertices_of ws → e ≡ edges_of ws → k ≡ walkable es noted e n → k ≡ false →
    computed_of false view ≡ compute_view ws es noted view
unfolding view_from compute_view
view_not ws es noted view n e k p q s t =
    no_decided noted view (vertices_of ws) (regions_from ws es noted false) (regions_from ws es noted true) _ _ refl refl
    (sym (ap (λ (r : Regions). r.known) (regions_not ws es noted false n e _ _ _ k _ p q refl (s, refl) (refl, refl) t)))

-- two rows of words, one after the other
pub with_regions_lem : (from : ℕ) (labels weights view v1 v2 : List ℕ) → v1 ≡ filled from 64 (word labels) view → v2 ≡ filled (from + 128) 64 (word weights) v1 →
    v2 ≡ filled (from + 128) 64 (word weights) (filled from 64 (word labels) view)
with_regions_lem from labels weights view v1 v2 a b = b ∙ ap (filled (from + 128) 64 (word weights)) a

pub with_bounds_lem : (from : ℕ) (b : Bounds) (view v1 v2 : List ℕ) → v1 ≡ filled from 64 (word b.bounds) view → v2 ≡ filled (from + 64) 64 (word b.holders) v1 → v2 ≡ with_bounds from b view
unfolding with_bounds
with_bounds_lem from b view v1 v2 x y = y ∙ ap (filled (from + 64) 64 (word b.holders)) x
