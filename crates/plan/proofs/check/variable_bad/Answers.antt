use Rattle.std.proofs.Common.{rules, arith, ℕ, ◌≡◌, ◌+◌, ◌-◌}
use Rattle.std.proofs.lemmas.Grind.{common_steps}
use Rattle.base.specs.Lists.{some}
use Rattle.base.proofs.Some.{any_below}
use Rattle.plan.specs.Check.{occurrence_bad, variable_bad}
use Rattle.plan.specs.Words.{words_of}
use Rattle.plan.proofs.check.variable_bad.Goals as goal

pub returns-else-num_slots-end : goal.returns-else-num_slots-end
unfolding variable_bad
returns-else-num_slots-end c =
    let t = λ (i : ℕ). occurrence_bad (words_of c.args.plan.now) c.args.k (c.start_at.result + i) in
    let e : c.any.result ≡ some t (c.start_at-end.result - c.start_at.result) = any_below t _ _ _ _ c.any.ensures.ran (λ x b q e. search rules) in
    grind (arith, common_steps)
