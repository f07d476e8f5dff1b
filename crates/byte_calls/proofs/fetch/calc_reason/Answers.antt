use mathlib.Core.Path.{refl, ap, ◌∙◌}
use mir.Facts.{to_z-of_z}
use Rattle.graph_division.specs.Calls.{Fetched}
use Rattle.byte_calls.specs.Host.{given_in}
use Rattle.byte_calls.proofs.Filling.{capped_min}
use Rattle.byte_calls.proofs.Undoing.{given_back, reason_read}
use Rattle.byte_calls.proofs.Leaving.{part_fits, buffer_part, buffer_fits, buffer_long, buffer_less, noted_decoded, cursor_decoded, records_length, records_in_lem}
use borrow.Author.Rules.{rules}
use Rattle.byte_calls.proofs.fetch.calc_reason.Goals as goal

pub slice_bounds-give_reason-end : goal.slice_bounds-give_reason-end
slice_bounds-give_reason-end c = part_fits _ _ _ c.room_of-k.ensures (records_length _ _ _ c.decode-before.ensures)

pub slice_bounds-out-end : goal.slice_bounds-out-end
slice_bounds-out-end c = buffer_fits _ _ _ (capped_min _ _ _ c.min-n.ensures) (buffer_long _ c.no_list-out.ensures)

pub give_reason-requires : goal.give_reason-requires
give_reason-requires c =
    let d = c.decode-before.ensures in
    let b = c.args.buffer.now in
    (c.requires.0, c.read_edges-edges.ensures, noted_decoded _ _ _ d, buffer_less _ b (buffer_part _ _ _ b refl (capped_min _ _ _ c.min-n.ensures) c.no_list-out.ensures))

pub returns : goal.returns
returns c =
    let d = c.decode-before.ensures in
    let b = c.args.buffer.now in
    let records = records_in_lem _ _ _ d c.room_of-k.ensures in
    let y = reason_read _ (cursor_decoded _ _ _ d) records (to_z-of_z c.ranges.lit) (buffer_part _ _ _ b refl (capped_min _ _ _ c.min-n.ensures) c.no_list-out.ensures) in
    given_back _ _ _ _ (c.give_reason.ensures ∙ ap (λ (y : Fetched). given_in y b) y)
