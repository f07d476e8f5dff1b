use mathlib.Core.Path.{refl, ap, ◌∙◌}
use mir.Facts.{to_z-of_z}
use Rattle.graph_division.specs.Calls.{Fetched}
use Rattle.byte_calls.specs.Host.{given_in}
use Rattle.byte_calls.proofs.Filling.{capped_min}
use Rattle.byte_calls.proofs.Undoing.{given_back, run_read}
use Rattle.byte_calls.proofs.Leaving.{buffer_part, buffer_fits, buffer_long, buffer_less}
use borrow.Author.Rules.{rules}
use Rattle.byte_calls.proofs.run.run.Goals as goal

pub slice_bounds-out-end : goal.slice_bounds-out-end
slice_bounds-out-end c = buffer_fits _ _ _ (capped_min _ _ _ c.min-n.ensures) (buffer_long _ c.no_list-out.ensures)

pub give_run-requires : goal.give_run-requires
give_run-requires c =
    let b = c.args.buffer.now in
    (c.requires.0, c.requires.1, buffer_less _ b (buffer_part _ _ _ b refl (capped_min _ _ _ c.min-n.ensures) c.no_list-out.ensures))

pub returns : goal.returns
returns c =
    let b = c.args.buffer.now in
    let out = buffer_part _ _ _ b refl (capped_min _ _ _ c.min-n.ensures) c.no_list-out.ensures in
    given_back _ _ _ _ (c.give_run.ensures
    ∙ ap (λ (y : Fetched). given_in y b) (run_read _ refl refl (to_z-of_z c.ranges.from) (to_z-of_z c.ranges.to) out))
