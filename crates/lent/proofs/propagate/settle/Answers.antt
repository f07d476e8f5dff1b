use mathlib.Core.Path.{refl, ◌∙◌}
use Rattle.lent.specs.Lent.{state_of, state_after, called_of}
use Rattle.graph_division.specs.Calls.{with_noted, with_judged, refuse, tried_out}
use Rattle.base.specs.Iter.{pick}
use Rattle.judge.specs.Judge.{judge_words}
use Rattle.judge.proofs.Judged.{judge_told_lem}
use Rattle.lent.proofs.Lending.{noted_judged}
use Rattle.lent.proofs.Settling.{settle_fine, settle_clash, settle_stopped}
use borrow.Author.Rules.{rules}
use Rattle.plan.specs.Words.{words_of}
use Rattle.lent.proofs.propagate.settle.Goals as goal

pub returns-in-Fine : goal.returns-in-Fine
unfolding called_of state_after pick with_noted with_judged refuse tried_out
returns-in-Fine c =
    let a = c.args in
    let e = c.try_out-crossed.ensures in
    λ rs last len b.
    settle_fine (state_of (words_of a.plan.now) a.edges a.noted.now rs last len b) a.cursor a.proposals.now a.left.now a.lit a.table.now a.list.now a.log.now _ _ _ (judge_told_lem _ _ _ _ _ _ _ e.1 c.judge-found.ensures ∙ (λ i. judge_words (words_of a.plan.now) a.edges (e.0 i) a.table.now a.proposals.now a.left.now)) _ _ _ _ _ c.in-Fine.is c.hand_on-handed.ensures (noted_judged (state_of (words_of a.plan.now) a.edges a.noted.now rs last len b) a.cursor a.lit 0 _ _ _ _ _ _ _ c.note-told.ensures.0)

pub returns-in-Clash : goal.returns-in-Clash
unfolding called_of state_after pick with_noted with_judged refuse tried_out
returns-in-Clash c =
    let a = c.args in
    let e = c.try_out-crossed.ensures in
    λ rs last len b.
    settle_clash (state_of (words_of a.plan.now) a.edges a.noted.now rs last len b) a.cursor a.proposals.now a.left.now a.lit a.table.now a.list.now a.log.now _ _ _ (judge_told_lem _ _ _ _ _ _ _ e.1 c.judge-found.ensures ∙ (λ i. judge_words (words_of a.plan.now) a.edges (e.0 i) a.table.now a.proposals.now a.left.now)) _ _ _ c.in-Clash.is (noted_judged (state_of (words_of a.plan.now) a.edges a.noted.now rs last len b) a.cursor a.lit _ _ _ _ _ _ _ _ c.note-told-in-Clash.ensures.0)

pub returns-in-Stopped : goal.returns-in-Stopped
unfolding called_of state_after pick with_noted with_judged refuse tried_out
returns-in-Stopped c =
    let a = c.args in
    let e = c.try_out-crossed.ensures in
    λ rs last len b.
    settle_stopped (state_of (words_of a.plan.now) a.edges a.noted.now rs last len b) a.cursor a.proposals.now a.left.now a.lit a.table.now a.list.now a.log.now _ _ _ (judge_told_lem _ _ _ _ _ _ _ e.1 c.judge-found.ensures ∙ (λ i. judge_words (words_of a.plan.now) a.edges (e.0 i) a.table.now a.proposals.now a.left.now)) _ _ c.in-Stopped.is refl
