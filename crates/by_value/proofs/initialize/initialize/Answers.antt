use Rattle.by_value.proofs.Shell.{initialize_shell}
use borrow.Author.Rules.{rules}
use Rattle.by_value.proofs.initialize.initialize.Goals as goal

pub returns : goal.returns
returns c = initialize_shell c.args.s _ _ c.table_of-edges.ensures _ c.plan_bytes-plan.ensures _ _ c.no_words-words.ensures _ _ _ _ _ _ _ _ _ _ c.begun_after.ensures c.initialize-done.ensures
