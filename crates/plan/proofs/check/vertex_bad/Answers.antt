use Rattle.std.proofs.Common.{rules, arith, ◌≡◌}
use Rattle.std.proofs.lemmas.Grind.{common_steps}
use Rattle.base.specs.Lists.{some}
use Rattle.base.proofs.Some.{any_below}
use Rattle.plan.specs.Check.{entry_bad, vertex_bad}
use Rattle.plan.specs.Words.{words_of}
use Rattle.plan.proofs.check.vertex_bad.Goals as goal

pub returns-else-len-gt32 : goal.returns-else-len-gt32
unfolding vertex_bad
returns-else-len-gt32 c =
    let t = entry_bad (words_of c.args.plan.now) c.args.v in
    let e : c.any.result ≡ some t c.domain_len-len.result = any_below t _ _ _ _ c.any.ensures.ran (λ x b q e. search rules) in
    grind (arith, common_steps)
