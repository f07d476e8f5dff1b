use mathlib.Core.Path.{refl, ap, ◌∙◌}
use mir.Facts.{to_z-of_z}
use Rattle.graph_division.specs.Calls.{Called}
use Rattle.byte_calls.specs.Layout.{cursor_in}
use Rattle.byte_calls.specs.Host.{left_of, propagated_in}
use Rattle.byte_calls.proofs.Leaving.{after_is, left_back, part_fits, lits_long, lits_part, noted_decoded, cursor_decoded, records_length, records_decoded, propagated_read}
use borrow.Author.Rules.{rules}
use Rattle.byte_calls.proofs.changes.propagate.Goals as goal

pub slice_bounds-lits-end : goal.slice_bounds-lits-end
slice_bounds-lits-end c = part_fits _ _ _ c.room_of-n.ensures (lits_long _ c.no_lits-lits.ensures)

pub slice_bounds-records-end : goal.slice_bounds-records-end
slice_bounds-records-end c = part_fits _ _ _ c.room_of-k.ensures (records_length _ _ _ c.decode-before.ensures)

pub notify-requires : goal.notify-requires
notify-requires c =
    let p = c.requires in
    let d = c.decode-before.ensures in
    let lits = lits_part _ _ _ c.args.list.now refl c.room_of-n.ensures c.no_lits-lits.ensures in
    (p.0, c.read_edges-edges.ensures, noted_decoded _ _ _ d, lits, cursor_decoded _ _ _ d, records_decoded _ _ _ d c.room_of-k.ensures, p.1)

pub returns : goal.returns
returns c =
    let a = c.args in
    let f = c.ranges in
    let n = c.notify.ensures in
    let y = propagated_read a.state.now a.table.now a.list.now a.log.now a.cursor.now
    (to_z-of_z f.lit) (to_z-of_z f.num_pending_propagations) in
    let list = a.list.now in
    let log = a.log.now in
    let cursor = a.cursor.now in record { cursor_after = left_back (cursor_in cursor) _ list log cursor _ _ _ _ _ (n.cursor_after ∙ ap (λ (y : Called). left_of (cursor_in cursor) y list log cursor) y); after_of = after_is _ _ _ _ y n.after_of }
