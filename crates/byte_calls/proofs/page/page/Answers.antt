use mathlib.Core.Path.{◌∙◌}
use Rattle.byte_calls.specs.Host.{page_in}
use Rattle.byte_calls.specs.Layout.{state_in}
use Rattle.byte_calls.proofs.Undoing.{page_back_lem, page_read}
use Rattle.byte_calls.proofs.Leaving.{parts_in, part_fits, plan_here, noted_decoded, cursor_decoded}
use Rattle.byte_calls.proofs.Leaving.{records_length, records_in_lem}
use borrow.Author.Rules.{rules}
use Rattle.byte_calls.proofs.page.page.Goals as goal

pub slice_bounds-page-end : goal.slice_bounds-page-end
slice_bounds-page-end c = part_fits _ _ _ c.room_of-k.ensures (records_length _ _ _ c.decode-before.ensures)

pub returns : goal.returns
unfolding page_in
returns c =
    let d = c.decode-before.ensures in
    let p = parts_in c.args.state.now (plan_here c.args.state.now c.requires.0) c.read_edges-edges.ensures (noted_decoded _ _ _ d) in
    page_back_lem _ _ _ _ c.code_of.ensures (c.page-answer.ensures (state_in c.args.state.now) p
    ∙ page_read _ _ (cursor_decoded _ _ _ d) (records_in_lem _ _ _ d c.room_of-k.ensures))
