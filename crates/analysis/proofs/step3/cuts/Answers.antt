use mathlib.Core.Path.{sym, ap, ◌∙◌}
use native.Mathlib.Omega.{arith}
use Rattle.reasons.specs.Verdicts.{Going, ran}
use Rattle.analysis.proofs.Bounds.{cuts_bare, cuts_under, cuts_met, cuts_some}
use Rattle.analysis.proofs.step3.cuts.Goals as goal

pub returns-then-domain_len-eq0 : goal.returns-then-domain_len-eq0
returns-then-domain_len-eq0 c = cuts_bare _ _ _ _ _ (sym c.domain_len.ensures ∙ c.if-domain_len-eq0.true)

pub returns-then-weight-lower_bound : goal.returns-then-weight-lower_bound
returns-then-weight-lower_bound c = cuts_under _ _ _ _ _ (omega arith) (omega arith)

pub returns-then-weight-upper_bound : goal.returns-then-weight-upper_bound
returns-then-weight-upper_bound c =
    ap (ran Going) c.put.ensures
    ∙ cuts_some _ _ _ _ _ _ _ _ _ (omega arith) (omega arith) (omega arith) c.potential_weight-weight.ensures c.lit_at_least-lit.ensures c.negation.ensures c.packed.ensures

pub returns-else-weight-upper_bound : goal.returns-else-weight-upper_bound
returns-else-weight-upper_bound c = cuts_met _ _ _ _ _ (omega arith) (omega arith) (omega arith)
