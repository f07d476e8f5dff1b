use mathlib.Core.Path.{sym, ◌∙◌}
use Rattle.division.proofs.Views.{lowest_zero, lowest_more, lowest_here}
use Rattle.analysis.proofs.step1.lowest_match.Goals as goal

pub loop-h-init : goal.loop-h-init
loop-h-init c = lowest_zero _

pub returns-then-matches : goal.returns-then-matches
returns-then-matches c = lowest_here _ _ _ c.loop-h.invariant (sym c.matches.ensures ∙ c.if-matches.true) c.loop-h-test.true

pub loop-h-preserved : goal.loop-h-preserved
loop-h-preserved c = lowest_more _ _ c.loop-h.invariant (sym c.matches.ensures ∙ c.if-matches.false)
