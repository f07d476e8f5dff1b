use Rattle.lists.proofs.Steps.{mismatch_by, mismatch_other}
use Rattle.walks.specs.Answers.{missing}
use Rattle.lists.proofs.mismatch.Goals as goal

pub returns-in-InconsistentBoundsIfRegionsAreMerged : goal.returns-in-InconsistentBoundsIfRegionsAreMerged
returns-in-InconsistentBoundsIfRegionsAreMerged c = mismatch_by _ _ _ _ _ _ _ _ _ _ _ _ _ _ _ c.in-InconsistentBoundsIfRegionsAreMerged.is c.ends_of-e.ensures c.two_paths-r.ensures c.upper_bound_lit.ensures c.and_lit-s.ensures c.lower_bound_lit.ensures c.and_lit.ensures

pub returns : goal.returns
unfolding missing
returns c = mismatch_other _ _ _ _ _ c.in_default.not-InconsistentBoundsIfRegionsAreMerged
