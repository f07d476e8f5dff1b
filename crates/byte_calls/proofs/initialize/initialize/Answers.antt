use mathlib.Core.Path.{refl}
use Rattle.byte_calls.specs.Layout.{cursor_in}
use Rattle.byte_calls.proofs.Filling.{read_words_in}
use Rattle.byte_calls.proofs.Leaving.{left_back, part_fits, lits_long, lits_part, noted_decoded, cursor_decoded, records_length, records_decoded}
use borrow.Author.Rules.{rules}
use Rattle.byte_calls.proofs.initialize.initialize.Goals as goal

pub slice_bounds-lits-end : goal.slice_bounds-lits-end
slice_bounds-lits-end c = part_fits _ _ _ c.room_of-n.ensures (lits_long _ c.no_lits-lits.ensures)

pub slice_bounds-records-end : goal.slice_bounds-records-end
slice_bounds-records-end c = part_fits _ _ _ c.room_of-k.ensures (records_length _ _ _ c.decode-before.ensures)

pub begin-requires : goal.begin-requires
begin-requires c =
    let p = c.requires in
    let a = c.args in
    let d = c.decode-before.ensures in
    let last = read_words_in a.state.now 62764 260 _ _ c.no_list-last.ensures c.read_words.ensures in
    let lits = lits_part _ _ _ a.list.now refl c.room_of-n.ensures c.no_lits-lits.ensures in
    (p.0, c.read_edges-edges.ensures, noted_decoded _ _ _ d, last, lits, cursor_decoded _ _ _ d, records_decoded _ _ _ d c.room_of-k.ensures, p.1)

pub returns : goal.returns
returns c =
    let a = c.args in
    let b = c.begin.ensures in
    record { cursor_after = left_back (cursor_in a.cursor.now) _ a.list.now a.log.now a.cursor.now _ _ _ _ _ b.cursor_after; after_of = b.after_of }
