use mathlib.Core.Path.{refl, ◌∙◌}
use mir.Facts.{to_z-of_z}
use Rattle.byte_calls.specs.Layout.{state_in}
use Rattle.byte_calls.proofs.Undoing.{run_read}
use Rattle.byte_calls.proofs.Leaving.{parts_in, part_fits, plan_here, noted_decoded, cursor_decoded, records_length, records_in_lem}
use borrow.Author.Rules.{rules}
use Rattle.byte_calls.proofs.run.find_run.Goals as goal

pub slice_bounds-run-end : goal.slice_bounds-run-end
slice_bounds-run-end c = part_fits _ _ _ c.room_of-k.ensures (records_length _ _ _ c.decode-before.ensures)

pub returns : goal.returns
returns c =
    let d = c.decode-before.ensures in
    c.run.ensures (state_in c.args.state.now)
    (parts_in c.args.state.now (plan_here c.args.state.now c.requires.0) c.read_edges-edges.ensures (noted_decoded _ _ _ d))
    ∙ run_read _ (cursor_decoded _ _ _ d) (records_in_lem _ _ _ d c.room_of-k.ensures) (to_z-of_z c.ranges.from) (to_z-of_z c.ranges.to) refl
