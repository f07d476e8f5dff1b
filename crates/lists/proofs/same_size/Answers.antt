use Rattle.lists.proofs.Steps.{same_by, same_other}
use Rattle.walks.specs.Answers.{missing}
use Rattle.lists.proofs.same_size.Goals as goal

pub returns-in-AdjacentSameSizeRegions : goal.returns-in-AdjacentSameSizeRegions
returns-in-AdjacentSameSizeRegions c = same_by _ _ _ _ _ _ _ _ _ _ _ _ _ _ _ _ _ c.in-AdjacentSameSizeRegions.is c.three_regions-r.ensures c.and_opt-s.ensures c.and_opt-t.ensures c.and_opt-w.ensures c.and_opt.ensures

pub returns : goal.returns
unfolding missing
returns c = same_other _ _ _ _ _ c.in_default.not-AdjacentSameSizeRegions
