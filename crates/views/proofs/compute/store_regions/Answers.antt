use Rattle.std.proofs.Common.{rules}
use Rattle.plan.specs.Words.{word}
use Rattle.views.proofs.Computing.{with_regions_lem}
use Rattle.views.proofs.compute.store_regions.Goals as goal

pub returns : goal.returns
returns c =
    let a = c.args in
    with_regions_lem a.from a.labels.now a.weights.now a.view.now _ _ (c.fill.ensures (word a.labels.now) (λ i x h p. search rules)) (c.fill-2.ensures (word a.weights.now) (λ i x h p. search rules))
