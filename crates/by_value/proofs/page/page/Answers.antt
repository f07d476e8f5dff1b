use Rattle.by_value.proofs.Shell.{page_shell}
use borrow.Author.Rules.{rules}
use Rattle.by_value.proofs.page.page.Goals as goal

pub returns : goal.returns
returns c = page_shell c.args.s _ _ c.table_of-edges.ensures _ c.plan_bytes-plan.ensures _ _ _ c.page.ensures
