use mathlib.Core.Path.{sym, ap, ◌∙◌}
use native.Mathlib.Omega.{arith}
use Rattle.reasons.specs.Verdicts.{Going, ran}
use Rattle.noting.specs.Words.{lits_of}
use Rattle.analysis.proofs.Spreading.{spreads_low_bare, spreads_low_met, spreads_low_some}
use Rattle.analysis.proofs.step4.spreads_low.Goals as goal

pub returns-then-lower_bound-bound : goal.returns-then-lower_bound-bound
returns-then-lower_bound-bound c =
    ap (ran Going) c.put.ensures
    ∙ spreads_low_some _ _ _ _ _ _ _ _ _ _ _ (omega arith) (omega arith) c.decided_region-region.ensures c.region_lower_bound-bound.ensures c.region_lower_bound_idx-known.ensures
    (ap lits_of (sym c.lower_bound_lit.ensures)) c.lit_at_least-lit.ensures c.packed.ensures

pub returns-else-lower_bound-bound : goal.returns-else-lower_bound-bound
returns-else-lower_bound-bound c = spreads_low_met _ _ _ _ _ _ _ (omega arith) c.decided_region-region.ensures c.region_lower_bound-bound.ensures (omega arith)

pub returns-else-domain_len-gt0 : goal.returns-else-domain_len-gt0
returns-else-domain_len-gt0 c = spreads_low_bare _ _ _ _ _ (omega arith)
