use mathlib.Core.Path.{refl}
use Rattle.base.specs.Iter.{pick}
use Rattle.graph_division.specs.declared.Answer.TheVariants as answer
use Rattle.graph_division.specs.Calls.{with_noted, refuse}
use Rattle.lent.proofs.Begun.{end_fine, end_clash, end_stopped}
use Rattle.lent.specs.Lent.{state_of, state_after, begun_after, begun_of}
use Rattle.lent.proofs.Beginning.{taken_done, taken_over_lem}
use borrow.Author.Rules.{rules}
use Rattle.plan.specs.Words.{words_of}
use Rattle.lent.proofs.initialize.finish.Goals as goal

pub returns-in-Fine : goal.returns-in-Fine
unfolding begun_of begun_after state_after pick
returns-in-Fine c =
    let a = c.args in
    λ ends rs last len b words left.
    let s = (state_of (words_of a.plan.now) ends a.noted.now rs last len b) in
    end_fine s a.cursor a.entry.now a.log.now words left a.x _ _ _ _ _ _ _ c.in-Fine.is c.copy.ensures
    (taken_done s a.cursor a.entry.now a.log.now words left a.x _ _ _ c.note_up_to-c.ensures (answer.Consistent a.x.handed))

pub returns-in-Clash : goal.returns-in-Clash
unfolding begun_of begun_after state_after pick
returns-in-Clash c =
    let a = c.args in
    λ ends rs last len b words left.
    let s = (state_of (words_of a.plan.now) ends a.noted.now rs last len b) in
    end_clash s a.cursor a.entry.now a.log.now words left a.x _ _ _ _ _ _ _ _ c.in-Clash.is c.copy-in-Clash.ensures
    (taken_over_lem s a.cursor a.entry.now a.log.now words left a.x _ _ _ c.note_up_to-c-in-Clash.ensures answer.Conflict)

pub returns-in-Stopped : goal.returns-in-Stopped
unfolding begun_of begun_after state_after pick with_noted refuse
returns-in-Stopped c =
    let a = c.args in
    λ ends rs last len b words left.
    let s = (state_of (words_of a.plan.now) ends a.noted.now rs last len b) in
    end_stopped s a.cursor a.entry.now a.log.now words left a.x _ _ _ _ _ _ _ c.in-Stopped.is c.restore.ensures refl
