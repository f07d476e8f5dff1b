use mathlib.Core.Path.{sym, ◌∙◌}
use Rattle.division.proofs.Views.{lowest_zero, lowest_more, lowest_here}
use Rattle.analysis.proofs.step1.first_undecided.Goals as goal

pub loop-h-init : goal.loop-h-init
loop-h-init c = lowest_zero _

pub returns-then-is_undecided : goal.returns-then-is_undecided
returns-then-is_undecided c = lowest_here _ _ _ c.loop-h.invariant (sym c.is_undecided.ensures ∙ c.if-is_undecided.true) c.loop-h-test.true

pub loop-h-preserved : goal.loop-h-preserved
loop-h-preserved c = lowest_more _ _ c.loop-h.invariant (sym c.is_undecided.ensures ∙ c.if-is_undecided.false)
