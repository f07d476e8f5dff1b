use Rattle.std.proofs.Common.{rules}
use Rattle.plan.specs.Words.{word}
use Rattle.views.proofs.Computing.{with_bounds_lem}
use Rattle.views.proofs.compute.store_bounds.Goals as goal

pub returns : goal.returns
returns c =
    let a = c.args in
    with_bounds_lem _ a.b _ _ _ (c.fill.ensures (word a.b.bounds) (λ i x h p. search rules)) (c.fill-2.ensures (word a.b.holders) (λ i x h p. search rules))
