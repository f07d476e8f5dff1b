use Rattle.std.proofs.Common.{◌∙◌, refl}
use Rattle.base.proofs.Numbered.{number_not_0}
use Rattle.plan.specs.Words.{words_of}
use Rattle.lent.specs.Lent.{state_of}
use Rattle.lent.proofs.Parting.{of_last}
use Rattle.lent.proofs.Fetching.{last_refused, last_found}
use Rattle.lent.proofs.fetch.calc_last.Goals as goal

pub returns-in-Some : goal.returns-in-Some
returns-in-Some c =
    let a = c.args in
    of_last _ (λ rs b. last_refused (state_of (words_of a.plan.now) a.edges a.noted.now rs a.last.now a.len b) _ _ _ _ (c.number.ensures ∙ c.in-Some.ensures)
    (number_not_0 c.in-Some.refusal _ c.number.ensures))

pub returns : goal.returns
returns c =
    let a = c.args in
    of_last _ (λ rs b. last_found (state_of (words_of a.plan.now) a.edges a.noted.now rs a.last.now a.len b) _ _ _ _ c.in_default.ensures _ refl c.give_list.ensures)
