use Rattle.std.proofs.Common.{rules}
use Rattle.base.proofs.Some.{any_below}
use Rattle.builder.proofs.input.end_wrong.Goals as goal

pub returns : goal.returns
returns c = any_below _ _ _ _ _ c.any.ensures.ran (λ x b q e. search rules)
