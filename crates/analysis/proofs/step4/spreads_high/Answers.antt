use mathlib.Core.Path.{sym, ap, ◌∙◌}
use native.Mathlib.Omega.{arith}
use Rattle.reasons.specs.Verdicts.{Going, ran}
use Rattle.noting.specs.Words.{lits_of}
use Rattle.analysis.proofs.Spreading.{spreads_high_bare, spreads_high_met, spreads_high_some}
use Rattle.analysis.proofs.step4.spreads_high.Goals as goal

pub returns-then-bound-upper_bound : goal.returns-then-bound-upper_bound
returns-then-bound-upper_bound c =
    ap (ran Going) c.put.ensures
    ∙ spreads_high_some _ _ _ _ _ _ _ _ _ _ _ _ (omega arith) (omega arith) c.decided_region-region.ensures c.region_upper_bound-bound.ensures c.region_upper_bound_idx-known.ensures
    (ap lits_of (sym c.upper_bound_lit.ensures)) c.lit_at_least-lit.ensures c.negation.ensures c.packed.ensures

pub returns-else-bound-upper_bound : goal.returns-else-bound-upper_bound
returns-else-bound-upper_bound c = spreads_high_met _ _ _ _ _ _ _ (omega arith) c.decided_region-region.ensures c.region_upper_bound-bound.ensures (omega arith)

pub returns-else-domain_len-gt0 : goal.returns-else-domain_len-gt0
returns-else-domain_len-gt0 c = spreads_high_bare _ _ _ _ _ (omega arith)
