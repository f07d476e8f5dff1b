use mathlib.Core.Path.{ap, ◌∙◌}
use mir.Syntax.{w32}
use mir.Facts.{to_z-of_z}
use Rattle.byte_calls.specs.Host.{too_short, undone_in, host_undone}
use Rattle.host.proofs.Handing.{back_handed, leaves_handed}
use borrow.Author.Rules.{rules}
use Rattle.host.proofs.zuntjev_undo.Goals as goal

pub returns : goal.returns
returns c =
    let a = c.args in
    let f = c.undo in
    let state = a.state.now in
    let log = a.log.now in
    let cursor = a.cursor.now in
    let lit = to_z-of_z c.ranges.lit in record { cursor_after = back_handed _ _ _ _ (to_z-of_z {w = w32} {z = f.result} (record { sfits = f.type_inv })) (f.ensures.cursor_after ∙ ap (host_undone state log cursor) lit); leaves = leaves_handed (too_short state cursor) _ _ _ _ (ap (undone_in state log cursor) lit) f.ensures.leaves }
