use mathlib.Core.Path.{◌∙◌}
use mir.Syntax.{w32}
use mir.Facts.{to_z-of_z}
use Rattle.byte_calls.specs.Host.{too_short, propagated_in, host_propagated}
use Rattle.host.proofs.Handing.{left_handed, leaves_handed}
use borrow.Author.Rules.{rules}
use Rattle.host.proofs.zuntjev_propagate.Goals as goal

pub returns : goal.returns
returns c =
    let a = c.args in
    let f = c.propagate in
    let state = a.state.now in
    let t = a.table.now in
    let list = a.list.now in
    let log = a.log.now in
    let cursor = a.cursor.now in
    let lit = to_z-of_z c.ranges.lit in
    let pending = to_z-of_z c.ranges.num_pending_propagations in record {
      cursor_after = left_handed _ _ _ _ _ _ _ (to_z-of_z {w = w32} {z = f.result} (record { sfits = f.type_inv }))
          (f.ensures.cursor_after ∙ (λ i. host_propagated state t list log cursor (lit i) (pending i)));
      leaves = leaves_handed (too_short state cursor) _ _ _ _ (λ i. (propagated_in state t list log cursor (lit i) (pending i)).outcome) f.ensures.leaves;
    }
