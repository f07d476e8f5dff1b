use mathlib.Core.Path.{ap, ◌∙◌}
use mir.Facts.{to_z-of_z}
use Rattle.graph_division.specs.declared.Outcome.{Outcome}
use Rattle.byte_calls.specs.Host.{back_by, undone_in}
use Rattle.byte_calls.proofs.Undoing.{undo_back, undo_after, undone_read}
use Rattle.byte_calls.proofs.Leaving.{part_fits, noted_decoded, cursor_decoded, records_length, records_in_lem}
use borrow.Author.Rules.{rules}
use Rattle.byte_calls.proofs.changes.undo.Goals as goal

pub slice_bounds-take_back-end : goal.slice_bounds-take_back-end
slice_bounds-take_back-end c = part_fits _ _ _ c.room_of-k.ensures (records_length _ _ _ c.decode-before.ensures)

pub take_back-requires : goal.take_back-requires
take_back-requires c =
    let p = c.requires in
    let d = c.decode-before.ensures in
    (p.0, p.1, c.read_edges-edges.ensures, noted_decoded _ _ _ d)

pub returns : goal.returns
unfolding undone_in
returns c =
    let d = c.decode-before.ensures in
    let cursor = c.args.cursor.now in
    let lit = to_z-of_z c.ranges.lit in
    let y = undone_read _ (cursor_decoded _ _ _ d) lit (records_in_lem _ _ _ d c.room_of-k.ensures) in
    record { cursor_after = undo_back _ _ _ _ (c.take_back.ensures.cursor_after ∙ ap (λ (y : Outcome). back_by y cursor) y); after_of = undo_after _ _ _ _ y c.take_back.ensures.after_of }
