use Rattle.lists.proofs.Steps.{arm, mismatch_arm, same_arm}
use mathlib.Core.Path.{refl}
use Rattle.walks.specs.Answers.{missing}
use Rattle.lists.specs.Lists.{reason_lits}
use Rattle.lists.proofs.reason_lits.Goals as goal

pub returns-in-NotPropagated : goal.returns-in-NotPropagated
unfolding reason_lits missing
returns-in-NotPropagated c = arm _ _ _ _ _ _ _ c.in-NotPropagated.is refl

pub returns-in-EdgeInSameGroup : goal.returns-in-EdgeInSameGroup
unfolding reason_lits missing
returns-in-EdgeInSameGroup c = arm _ _ _ _ _ _ _ c.in-EdgeInSameGroup.is c.inside.ensures

pub returns-in-EdgeBetweenDifferentGroups : goal.returns-in-EdgeBetweenDifferentGroups
unfolding reason_lits missing
returns-in-EdgeBetweenDifferentGroups c = arm _ _ _ _ _ _ _ c.in-EdgeBetweenDifferentGroups.is c.between.ensures

pub returns-in-TooLargeIfRegionsAreMerged : goal.returns-in-TooLargeIfRegionsAreMerged
unfolding reason_lits missing
returns-in-TooLargeIfRegionsAreMerged c = arm _ _ _ _ _ _ _ c.in-TooLargeIfRegionsAreMerged.is c.too_large.ensures

pub returns-in-RegionAlreadyLarge : goal.returns-in-RegionAlreadyLarge
unfolding reason_lits missing
returns-in-RegionAlreadyLarge c = arm _ _ _ _ _ _ _ c.in-RegionAlreadyLarge.is c.decided.ensures

pub returns-in-RegionAlreadySmall : goal.returns-in-RegionAlreadySmall
unfolding reason_lits missing
returns-in-RegionAlreadySmall c = arm _ _ _ _ _ _ _ c.in-RegionAlreadySmall.is c.potential.ensures

pub returns-in-InconsistentBoundsIfRegionsAreMerged : goal.returns-in-InconsistentBoundsIfRegionsAreMerged
unfolding reason_lits missing
returns-in-InconsistentBoundsIfRegionsAreMerged c = mismatch_arm _ _ _ _ _ _ _ _ _ _ c.in-InconsistentBoundsIfRegionsAreMerged.is c.mismatch.ensures

pub returns-in-BoundPropagationWithinRegion : goal.returns-in-BoundPropagationWithinRegion
unfolding reason_lits missing
returns-in-BoundPropagationWithinRegion c = arm _ _ _ _ _ _ _ c.in-BoundPropagationWithinRegion.is c.spread.ensures

pub returns-in-AdjacentSameSizeRegions : goal.returns-in-AdjacentSameSizeRegions
unfolding reason_lits missing
returns-in-AdjacentSameSizeRegions c = same_arm _ _ _ _ _ _ _ _ _ _ _ _ _ c.in-AdjacentSameSizeRegions.is c.same_size.ensures
