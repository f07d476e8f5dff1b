use mathlib.Core.List.{[]}
use mathlib.Core.Path.{sym, ◌∙◌}
use Rattle.analysis.proofs.Chain.{step5_off, step5_on}
use Rattle.analysis.proofs.analyze.step5.Goals as goal

pub returns-then-disallow_adjacent_same_size_regions : goal.returns-then-disallow_adjacent_same_size_regions
returns-then-disallow_adjacent_same_size_regions c = step5_on _ _ _ _ _ [] (sym c.disallow_adjacent_same_size_regions.ensures ∙ c.if-disallow_adjacent_same_size_regions.true) c.disconnect_same_size.ensures

pub returns : goal.returns
returns c = step5_off _ _ _ _ [] [] (sym c.disallow_adjacent_same_size_regions.ensures ∙ c.if-disallow_adjacent_same_size_regions.false)
