use Rattle.notifications.proofs.Cases.{last_fine, last_clash, last_stopped}
use Rattle.judge.proofs.Judged.{judge_told_lem}
use borrow.Author.Rules.{rules}
use Rattle.notifications.proofs.analyze_once_more.Goals as goal

pub returns-in-Fine : goal.returns-in-Fine
returns-in-Fine c = last_fine _ _ _ _ _ _ _ _ _ _ (judge_told_lem _ _ _ _ _ _ _ c.crossed-crossed.ensures c.judge-found.ensures) _ c.in-Fine.is c.merge.ensures

pub returns-in-Clash : goal.returns-in-Clash
returns-in-Clash c = last_clash _ _ _ _ _ _ _ _ _ _ (judge_told_lem _ _ _ _ _ _ _ c.crossed-crossed.ensures c.judge-found.ensures) _ _ c.in-Clash.is c.merge-in-Clash.ensures

pub returns-in-Stopped : goal.returns-in-Stopped
returns-in-Stopped c = last_stopped _ _ _ _ _ _ _ _ _ _ (judge_told_lem _ _ _ _ _ _ _ c.crossed-crossed.ensures c.judge-found.ensures) _ c.in-Stopped.is
