use mathlib.Core.Path.{ap, ◌∙◌}
use native.Mathlib.Omega.{arith}
use Rattle.reasons.specs.Verdicts.{Going, ran}
use Rattle.analysis.proofs.Bounds.{raises_bare, raises_met, raises_some}
use Rattle.analysis.proofs.step2.raises.Goals as goal

pub returns-then-lower_bound-weight : goal.returns-then-lower_bound-weight
returns-then-lower_bound-weight c =
    ap (ran Going) c.put.ensures
    ∙ raises_some _ _ _ _ _ _ _ _ (omega arith) (omega arith) c.decided_weight-weight.ensures c.lit_at_least-lit.ensures c.packed.ensures

pub returns-else-lower_bound-weight : goal.returns-else-lower_bound-weight
returns-else-lower_bound-weight c = raises_met _ _ _ _ _ (omega arith) (omega arith)

pub returns-else-domain_len-gt0 : goal.returns-else-domain_len-gt0
returns-else-domain_len-gt0 c = raises_bare _ _ _ _ _ (omega arith)
