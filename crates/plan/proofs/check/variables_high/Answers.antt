use Rattle.std.proofs.Common.{rules, arith, ◌≡◌}
use Rattle.std.proofs.lemmas.Grind.{common_steps}
use Rattle.base.specs.Lists.{some}
use Rattle.base.proofs.Some.{any_below}
use Rattle.plan.specs.Check.{variable_high, variables_high}
use Rattle.plan.specs.Words.{words_of}
use Rattle.plan.proofs.check.variables_high.Goals as goal

pub returns : goal.returns
unfolding variable_high variables_high
returns c =
    let t = variable_high (words_of c.args.plan.now) in
    let e : c.any.result ≡ some t c.num_variables.result = any_below t _ _ _ _ c.any.ensures.ran (λ x b q e. search rules) in
    grind (arith, common_steps)
