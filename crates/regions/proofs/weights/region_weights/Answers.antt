use Rattle.std.proofs.Common.{sym, ◌∙◌}
use Rattle.base.proofs.Loop.{pick_yes, pick_no}
use Rattle.regions.specs.Buckets.{weighed}
use Rattle.regions.proofs.Buckets.{labels_known, light_known, weighable_yes, weighable_heavy, weighable_no}
use Rattle.regions.proofs.weights.region_weights.Goals as goal
use Rattle.regions.proofs.weights.region_weights.Goals.{else-labels_below-via-then-labels_below+else-light, else-labels_below-via-else-labels_below}

pub light-requires : goal.light-requires
light-requires c = (labels_known _ _ _ _ (sym c.if-labels_below.ensures)).1

pub fill-requires : goal.fill-requires
fill-requires c =
    let k = labels_known _ _ _ _ (sym c.if-labels_below.ensures) in
    (k.0, k.1, k.2, light_known c.args.words.now c.args.first _ (sym c.if-light.ensures))

pub returns-then-light : goal.returns-then-light
unfolding weighed
returns-then-light c =
    let t = weighable_yes _ _ _ _ (sym c.if-labels_below.ensures) (sym c.if-light.ensures) in
    (sym t, c.fill.ensures ∙ sym (pick_yes _ _ t))

pub returns : goal.returns
unfolding weighed
returns c = elim c.else-labels_below.branch [
  | else-labels_below-via-then-labels_below+else-light w ↦
      let t = weighable_heavy _ _ _ _ (sym w.if-light.ensures) in (sym t, sym (pick_no _ _ t))
  | else-labels_below-via-else-labels_below w ↦
      let t = weighable_no _ _ _ _ (sym w.if-labels_below.ensures) in (sym t, sym (pick_no _ _ t))
]
