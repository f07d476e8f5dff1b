use mathlib.Core.List.{[]}
use mathlib.Core.Path.{sym, ◌∙◌}
use Rattle.analysis.proofs.Chain.{step1_walls, step1_ended, step1_done}
use Rattle.analysis.proofs.Pass.{ran_left}
use Rattle.analysis.proofs.analyze.step1.Goals as goal

pub returns-then-allow_extra_walls : goal.returns-then-allow_extra_walls
returns-then-allow_extra_walls c = step1_walls _ _ _ _ [] [] (sym c.allow_extra_walls.ensures ∙ c.if-allow_extra_walls.true)

pub returns-in_err-connect_inside : goal.returns-in_err-connect_inside
returns-in_err-connect_inside c = ran_left _ _ _ _ _ c.from_residual.ensures.1 (step1_ended _ _ _ _ _ [] (sym c.allow_extra_walls.ensures ∙ c.if-allow_extra_walls.false) c.in_err-connect_inside.ensures)

pub returns : goal.returns
returns c = step1_done _ _ _ _ _ _ (sym c.allow_extra_walls.ensures ∙ c.if-allow_extra_walls.false) c.in_ok-connect_inside.ensures c.disconnect_matched.ensures
