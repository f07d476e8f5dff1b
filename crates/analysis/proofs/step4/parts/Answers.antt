use mathlib.Core.Path.{sym, ◌∙◌}
use Rattle.division.specs.Analysis.{loose}
use Rattle.analysis.proofs.Spreading.{parts_not, parts_some}
use Rattle.analysis.proofs.step4.parts.Goals as goal

pub returns-then-loose : goal.returns-then-loose
unfolding loose
returns-then-loose c = parts_some _ _ _ _ _ _ _ _ _ (sym c.loose.ensures ∙ c.if-loose.true) c.left_region-u.ensures c.right_region-v.ensures c.part.ensures c.part-then-loose.ensures

pub returns-else-loose : goal.returns-else-loose
unfolding loose
returns-else-loose c = parts_not _ _ _ _ _ (sym c.loose.ensures ∙ c.if-loose.false)
