use mathlib.Core.Path.{◌∙◌}
use mir.Syntax.{w32}
use mir.Facts.{to_z-of_z}
use Rattle.byte_calls.specs.Host.{host_run}
use Rattle.host.proofs.Handing.{back_handed}
use borrow.Author.Rules.{rules}
use Rattle.host.proofs.zuntjev_run.Goals as goal

pub returns : goal.returns
returns c =
    let f = c.run in
    let from = to_z-of_z c.ranges.from in
    let to = to_z-of_z c.ranges.to in
    back_handed _ _ _ _ (to_z-of_z {w = w32} {z = f.result} (record { sfits = f.type_inv }))
    (f.ensures ∙ (λ i. host_run c.args.state.now c.args.log.now c.args.cursor.now (from i) (to i) c.args.buffer.now))
