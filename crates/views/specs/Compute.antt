-- What is computed of a state, on any words: document 01's regions and potential regions, their weights, and the tightest bounds of a
-- region's vertices.
use Rattle.std.specs.Prelude.{Bool, true, false, ◌&&◌, List, ℕ, ◌+◌, replicate}
use Rattle.base.specs.Iter.{pick}
use Rattle.base.specs.Lists.{filled}
use Rattle.graph.specs.Search.{graph}
use Rattle.graph.specs.Bounds.{walkable}
use Rattle.regions.specs.Labels.{regions_of}
use Rattle.regions.specs.Buckets.{labels_below, weighable, weighed, marks, bounds_of}
use Rattle.plan.specs.Words.{word, vertices_of, edges_of, weight_of}
use Rattle.views.specs.declared.compute.Regions.{Regions}
use Rattle.views.specs.declared.compute.Bounds.{Bounds}

abbrev pub zeros : List ℕ
zeros = replicate 64 0

-- the weights of 64 vertices
unfoldable pub weight_words : List ℕ → List ℕ
weight_words ws = filled 0 64 (weight_of ws) zeros

-- `compute_regions` and the regions' weights, of the decided or of the potential regions
unfoldable pub regions_from : List ℕ → List (List ℕ) → List ℕ → Bool → Regions
regions_from ws es noted potential =
    let n = vertices_of ws in
    let l = regions_of (graph es noted potential) (edges_of ws) n zeros in
    record {
      known = pick (walkable es noted (edges_of ws) n) (weighable l (weight_words ws) 0 n) false;
      labels = l;
      weights = weighed l (weight_words ws) 0 n zeros;
    }

-- `region_upper_bound` and `region_upper_bound_idx`, or the same for lower bounds; vertex v's bound is word first + v
unfoldable pub bounds_from : List ℕ → List ℕ → ℕ → ℕ → Bool → Bounds
bounds_from l noted first n upper =
    let x = bounds_of upper l noted first n (marks zeros zeros) in
    record { known = labels_below l noted first n; bounds = x.bounds; holders = x.holders }

-- the view's words with them
unfoldable pub with_regions : ℕ → Regions → List ℕ → List ℕ
with_regions from r view = filled (from + 128) 64 (word r.weights) (filled from 64 (word r.labels) view)

unfoldable pub with_bounds : ℕ → Bounds → List ℕ → List ℕ
with_bounds from b view = filled (from + 64) 64 (word b.holders) (filled from 64 (word b.bounds) view)

-- the answer, and the view's words then
pub record Computed : Type 0 where
  pub done : Bool
  pub words : List ℕ

abbrev pub computed_of : Bool → List ℕ → Computed
computed_of b w = record { done = b; words = w }

unfoldable pub compute_view : List ℕ → List (List ℕ) → List ℕ → List ℕ → Computed
compute_view ws es noted view =
    let d = regions_from ws es noted false in
    let p = regions_from ws es noted true in
    let u = bounds_from d.labels noted 192 (vertices_of ws) true in
    let l = bounds_from d.labels noted 128 (vertices_of ws) false in
    pick (d.known && (p.known && (u.known && l.known)))
    (computed_of true (with_bounds 384 l (with_bounds 256 u (with_regions 64 p (with_regions 0 d view)))))
    (computed_of false view)

-- the same of labels that are at hand: l's regions, n vertices, and the words of their weights
unfoldable pub weighed_from : List ℕ → List ℕ → ℕ → Regions
weighed_from l weights n = record { known = weighable l weights 0 n; labels = l; weights = weighed l weights 0 n zeros }

unfoldable pub view_from : List ℕ → ℕ → Regions → Regions → List ℕ → Computed
view_from noted n d p view =
    let u = bounds_from d.labels noted 192 n true in
    let l = bounds_from d.labels noted 128 n false in
    pick (d.known && (p.known && (u.known && l.known)))
    (computed_of true (with_bounds 384 l (with_bounds 256 u (with_regions 64 p (with_regions 0 d view)))))
    (computed_of false view)
