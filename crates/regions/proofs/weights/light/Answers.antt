use Rattle.std.proofs.Common.{rules}
use Rattle.std.specs.Prelude.{ltb}
use Rattle.graph.specs.Lists.{number_of}
use Rattle.graph.proofs.Lists.{all_below}
use Rattle.regions.proofs.weights.light.Goals as goal

pub returns : goal.returns
returns c = all_below (λ v. ltb (number_of c.args.words.now c.args.first v) 1000001) c.args.num_vertices _ _ _ c.all.ensures.ran (λ x b q k. search rules)
