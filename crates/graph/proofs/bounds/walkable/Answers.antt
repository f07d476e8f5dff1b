use Rattle.std.proofs.Common.{arith, rules, ◌≡◌}
use Rattle.std.proofs.lemmas.Grind.{common_steps}
use Rattle.base.specs.Iter.{pick}
use Rattle.graph.specs.Lists.{every}
use Rattle.graph.specs.Bounds.{ends_below, walkable}
use Rattle.graph.proofs.Lists.{all_below}
use Rattle.graph.proofs.bounds.walkable.Goals as goal

pub returns-then-num_edges-state : goal.returns-then-num_edges-state
unfolding walkable pick
returns-then-num_edges-state c =
    let e : c.all.result ≡ every (ends_below c.args.num_vertices c.args.edges.now) c.args.num_edges = all_below (ends_below c.args.num_vertices c.args.edges.now) c.args.num_edges _ _ _ c.all.ensures.ran (λ x b q k. search rules) in
    grind (arith, common_steps, e)
