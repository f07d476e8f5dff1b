use Rattle.notifications.proofs.Cases.{join_fine, join_clash, join_stopped}
use Rattle.judge.proofs.Judged.{judge_told_lem}
use borrow.Author.Rules.{rules}
use Rattle.notifications.proofs.join.Goals as goal

pub returns-in-Fine : goal.returns-in-Fine
returns-in-Fine c = join_fine _ _ _ _ _ _ _ (judge_told_lem _ _ _ _ _ _ _ c.requires c.judge-found.ensures) _ _ _ _ c.in-Fine.is c.merge.ensures c.hand_on-at.ensures

pub returns-in-Clash : goal.returns-in-Clash
returns-in-Clash c = join_clash _ _ _ _ _ _ _ (judge_told_lem _ _ _ _ _ _ _ c.requires c.judge-found.ensures) _ _ c.in-Clash.is c.merge-in-Clash.ensures

pub returns-in-Stopped : goal.returns-in-Stopped
returns-in-Stopped c = join_stopped _ _ _ _ _ _ _ (judge_told_lem _ _ _ _ _ _ _ c.requires c.judge-found.ensures) _ c.in-Stopped.is
