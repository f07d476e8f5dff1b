use Rattle.notifications.proofs.Cases.{merge_at_yes}
use borrow.Author.Rules.{rules}
use Rattle.notifications.proofs.merge.merge_at.Goals as goal

pub returns : goal.returns
returns c = merge_at_yes _ _ _ _ _ _ c.requires.1 c.word-first.ensures c.word-second.ensures c.put.ensures
