use mathlib.Core.Path.{◌∙◌}
use mir.Syntax.{w32}
use mir.Facts.{to_z-of_z}
use Rattle.byte_calls.specs.Host.{host_reason}
use Rattle.host.proofs.Handing.{back_handed}
use borrow.Author.Rules.{rules}
use Rattle.host.proofs.zuntjev_calc_reason.Goals as goal

pub returns : goal.returns
returns c =
    let a = c.args in
    let f = c.calc_reason in
    let lit = to_z-of_z c.ranges.lit in
    back_handed _ _ _ _ (to_z-of_z {w = w32} {z = f.result} (record { sfits = f.type_inv }))
    (f.ensures ∙ (λ i. host_reason a.state.now a.log.now a.cursor.now (lit i) a.buffer.now))
