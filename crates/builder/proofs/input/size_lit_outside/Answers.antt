use Rattle.std.proofs.Common.{rules, ◌≡◌, pred}
use Rattle.std.proofs.Math.Numerals.{sub-one}
use Rattle.base.proofs.Some.{any_below}
use Rattle.builder.specs.Input.{len_at}
use Rattle.builder.proofs.input.size_lit_outside.Goals as goal

pub returns : goal.returns
returns c =
    let n : c.saturating_sub-count.result ≡ pred (len_at c.args.vertices.now c.args.v) = simp (← sub-one) (cc) in
    rw (← n) (any_below _ _ _ _ _ c.any.ensures.ran (λ x b q e. search rules))
