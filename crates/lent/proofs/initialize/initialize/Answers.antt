use Rattle.std.proofs.Common.{◌∙◌, ap, refl}
use Rattle.base.specs.Iter.{pick}
use Rattle.base.proofs.Numbered.{number_not_0}
use Rattle.plan.specs.Words.{words_of}
use Rattle.graph_division.specs.Calls.{with_noted, refuse}
use Rattle.lent.specs.declared.Done.{Done}
use Rattle.lent.specs.Lent.{state_of, state_after, begun_after, begun_of}
use Rattle.lent.proofs.Beginning.{is_begun, is_refused}
use Rattle.lent.proofs.Parting.{of_all}
use Rattle.lent.proofs.initialize.initialize.Goals as goal

pub returns-in-Some : goal.returns-in-Some
unfolding begun_of begun_after state_after pick with_noted refuse
returns-in-Some c =
    let a = c.args in
    of_all _
    (λ rs.
    let s = state_of (words_of a.plan.now) a.edges a.noted.now rs a.left.now a.last_len a.done in
    ap (λ (d : Done). begun_of s a.noted.now a.words.now a.left.now d a.table.now a.list.now a.log.now) c.refused.ensures
    ∙ is_refused s a.cursor a.words.now a.table.now a.log.now a.list.now _ c.in-Some.ensures (number_not_0 c.in-Some.refusal _ refl))

pub returns : goal.returns
returns c =
    let a = c.args in
    of_all _
    (λ rs. is_begun (state_of (words_of a.plan.now) a.edges a.noted.now rs a.left.now a.last_len a.done) a.cursor a.words.now a.table.now a.log.now a.list.now _ c.in_default.ensures _ refl (c.begin.ensures rs a.done))
