use Rattle.std.proofs.Common.{rules, ap, ◌∙◌}
use Rattle.base.specs.Lists.{some}
use Rattle.base.proofs.Some.{any_below}
use Rattle.builder.specs.Input.{size_wrong}
use Rattle.builder.proofs.input.domain_wrong.Goals as goal

pub returns : goal.returns
returns c = any_below _ _ _ _ _ c.any.ensures.ran (λ x b q e. search rules) ∙ ap (some (size_wrong c.args.vertices.now c.args.v)) c.domain_len.ensures
