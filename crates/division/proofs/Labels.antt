-- The labels that one walk of the edges gives are the regions' labels: the lowest vertex that the search finds.
use Prim.Native.Nat.{ℕ, ◌<◌}
use native.Mathlib.Nat.{le_antisymm}
use native.Mathlib.Omega.{arith}
use mathlib.Core.Path.{◌≡◌}
use mathlib.Core.Bool.{Bool}
use mathlib.Core.List.{List}
use Rattle.graph.specs.Search.{graph}
use Rattle.graph.proofs.Joined.{joined_sym}
use Rattle.regions.specs.Labels.{label_of, Labelled}
use Rattle.division.specs.Plan.{Plan, Proper}
use Rattle.division.specs.Regions.{region_label}
use Rattle.division.proofs.Views.{label_is, label_lowest}

pub labels_agree : (d : Plan) (k : Proper d) (st : List ℕ) (po : Bool) (l : List ℕ) → Labelled (graph d.ends st po) d.edges d.vertices l →
    (v : ℕ) → v < d.vertices → label_of l v ≡ region_label d (graph d.ends st po) v
labels_agree d k st po l y v h =
    let low : label_of l v < d.vertices = omega (arith, y.below v h) in
    let x = label_is d k st po v h in
    le_antisymm (y.lowest _ v x.0 h (joined_sym x.1)) (label_lowest d k st po v _ h (joined_sym (y.same _ v low h (y.own v h))))
