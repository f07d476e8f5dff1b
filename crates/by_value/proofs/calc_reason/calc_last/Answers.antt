use Rattle.by_value.proofs.Shell.{last_shell}
use borrow.Author.Rules.{rules}
use Rattle.by_value.proofs.calc_reason.calc_last.Goals as goal

pub returns : goal.returns
returns c = last_shell c.args.s _ _ c.table_of-edges.ensures _ c.plan_bytes-plan.ensures _ _ _ c.calc_last.ensures
