use Rattle.std.proofs.Common.{arith, rules, ◌≡◌}
use Rattle.std.specs.Prelude.{ltb}
use Rattle.std.proofs.lemmas.Grind.{common_steps}
use Rattle.base.specs.Iter.{pick}
use Rattle.graph.specs.Lists.{every}
use Rattle.graph.proofs.Lists.{all_below}
use Rattle.regions.specs.Labels.{label_of}
use Rattle.regions.specs.Buckets.{labels_below}
use Rattle.regions.proofs.weights.labels_below.Goals as goal

pub returns-then-num_vertices-words : goal.returns-then-num_vertices-words
unfolding labels_below pick
returns-then-num_vertices-words c =
    let e : c.all.result ≡ every (λ v. ltb (label_of c.args.labels.now v) c.args.num_vertices) c.args.num_vertices = all_below (λ v. ltb (label_of c.args.labels.now v) c.args.num_vertices) c.args.num_vertices _ _ _ c.all.ensures.ran (λ x b q k. search rules) in
    grind (arith, common_steps, e)

pub returns-else-num_vertices-words : goal.returns-else-num_vertices-words
unfolding labels_below pick
returns-else-num_vertices-words c = grind (arith, common_steps)
