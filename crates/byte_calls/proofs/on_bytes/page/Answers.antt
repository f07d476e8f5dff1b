use mathlib.Core.Path.{sym, ◌∙◌}
use Rattle.byte_calls.specs.Host.{page_in}
use Rattle.byte_calls.proofs.Undoing.{page_again}
use Rattle.byte_calls.proofs.Leaving.{short_is, short_page, long_page}
use borrow.Author.Rules.{rules}
use Rattle.byte_calls.proofs.on_bytes.page.Goals as goal

pub returns-then-too_short : goal.returns-then-too_short
returns-then-too_short c =
    let a = c.args in
    short_page a.state.now a.log.now a.cursor.now _ (sym c.too_short.ensures ∙ c.if-too_short.true)

pub page-requires : goal.page-requires
page-requires c = short_is _ _ (sym c.too_short.ensures ∙ c.if-too_short.false)

pub returns : goal.returns
unfolding page_in
returns c =
    long_page c.args.state.now c.args.log.now c.args.cursor.now _ _ (sym c.too_short.ensures ∙ c.if-too_short.false)
    (page_again _ _ _ c.page.ensures)
