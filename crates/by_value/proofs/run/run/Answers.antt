use mir.Facts.{to_z-of_z}
use Rattle.by_value.proofs.Shell.{run_shell}
use borrow.Author.Rules.{rules}
use Rattle.by_value.proofs.run.run.Goals as goal

pub returns : goal.returns
returns c = run_shell c.args.s _ _ c.table_of-edges.ensures _ c.plan_bytes-plan.ensures _ _ _ _ _ _ _ (to_z-of_z c.ranges.from) (to_z-of_z c.ranges.to) c.run.ensures
