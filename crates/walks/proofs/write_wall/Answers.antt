use mathlib.Core.Path.{sym, ◌∙◌}
use Rattle.walks.proofs.Walk.{written_yes, written_no, pushed_as}
use Rattle.walks.specs.Written.{written}
use Rattle.walks.specs.Walk.{wall_at}
use Rattle.walks.proofs.write_wall.Goals as goal

pub returns-then-leaves : goal.returns-then-leaves
unfolding wall_at written
returns-then-leaves c = written_yes _ _ _ _ (sym c.leaves.ensures ∙ c.if-leaves.true) (pushed_as _ _ _ _ c.edge_lit.ensures c.push.ensures)

pub returns : goal.returns
unfolding wall_at
returns c = written_no _ _ _ (sym c.leaves.ensures ∙ c.if-leaves.false)
