use mir.Facts.{to_z-of_z}
use Rattle.graph_division.specs.Calls.{with_noted}
use Rattle.by_value.proofs.Shell.{undo_shell}
use borrow.Author.Rules.{rules}
use Rattle.by_value.proofs.undo.undo.Goals as goal

pub returns : goal.returns
unfolding with_noted
returns c = undo_shell c.args.s _ _ c.table_of-edges.ensures _ c.plan_bytes-plan.ensures _ _ _ _ _ _ (to_z-of_z c.ranges.lit) c.undo-done.ensures.answer_after
