use Rattle.notifications.specs.Notifications.{ended}
use Rattle.notifications.proofs.Cases.{through_all}
use borrow.Author.Rules.{rules}
use Rattle.notifications.proofs.go_through.Goals as goal

pub returns : goal.returns
unfolding ended
returns c = through_all _ _ _ _ _ _ _ _ c.notify_all-x.ensures c.last_pass.ensures
