use Rattle.std.proofs.Common.{rules}
use Rattle.base.proofs.Some.{any_below}
use Rattle.builder.specs.Input.{size_lit_outside}
use Rattle.builder.proofs.input.size_lits_outside.Goals as goal

pub returns : goal.returns
returns c = any_below (size_lit_outside c.args.vertices.now) _ _ _ _ c.any.ensures.ran (λ x b q e. search rules)
