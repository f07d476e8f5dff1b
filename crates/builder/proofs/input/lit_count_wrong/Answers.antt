use Rattle.std.proofs.Common.{rules}
use Rattle.base.proofs.Some.{any_below}
use Rattle.builder.specs.Input.{lit_count_wrong_at}
use Rattle.builder.proofs.input.lit_count_wrong.Goals as goal

pub returns : goal.returns
returns c = any_below (lit_count_wrong_at c.args.vertices.now) _ _ _ _ c.any.ensures.ran (λ x b q e. search rules)
