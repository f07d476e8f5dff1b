use Rattle.std.proofs.Common.{rules}
use Rattle.base.proofs.Some.{any_below}
use Rattle.builder.specs.Input.{domain_wrong}
use Rattle.builder.proofs.input.sizes_wrong.Goals as goal

pub returns : goal.returns
returns c = any_below (domain_wrong c.args.vertices.now) _ _ _ _ c.any.ensures.ran (λ x b q e. search rules)
