use borrow.Author.Rules.{rules}
use Rattle.lent.specs.Lent.{state_of}
use Rattle.lent.proofs.Parting.{of_parts}
use Rattle.lent.proofs.Paging.{page_refused, page_printed_lem}
use Rattle.plan.specs.Words.{words_of}
use Rattle.lent.proofs.page.page.Goals as goal

pub returns-then-state_bad : goal.returns-then-state_bad
returns-then-state_bad c =
    let a = c.args in
    let state = state_of (words_of a.plan.now) a.edges a.noted.now in
    of_parts _ (λ rs last len b. page_refused (state rs last len b) _ _ _ _ c.state_bad.ensures c.if-state_bad.true)

pub returns : goal.returns
returns c =
    let a = c.args in
    let state = state_of (words_of a.plan.now) a.edges a.noted.now in
    of_parts _ (λ rs last len b. page_printed_lem (state rs last len b) _ _ _ _ c.state_bad.ensures _ _ _ _ _ _ _ c.if-state_bad.false
    c.num_vertices-n.ensures c.compute.ensures c.lower_bounds.ensures c.upper_bounds.ensures c.print_page-printed.ensures c.answer_of.ensures)
