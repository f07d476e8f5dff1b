use mathlib.Core.Path.{sym, ◌∙◌}
use Rattle.byte_calls.specs.Layout.{cursor_in}
use Rattle.byte_calls.specs.Host.{too_short, initialized_in}
use Rattle.byte_calls.proofs.Leaving.{short_is, short_state, long_state, left_back}
use native.Mathlib.Omega.{arith}
use Rattle.byte_calls.proofs.LastList.{initialize_leaves}
use Rattle.byte_calls.proofs.Initializing.{begun_short, begun_long}
use borrow.Author.Rules.{rules}
use Rattle.byte_calls.proofs.on_bytes.initialize.Goals as goal

pub returns-then-too_short : goal.returns-then-too_short
returns-then-too_short c =
    let a = c.args in
    let t = sym c.too_short.ensures ∙ c.if-too_short.true in
    record { cursor_after = begun_short a.state.now a.table.now a.list.now a.log.now a.cursor.now t; leaves = initialize_leaves (too_short a.state.now a.cursor.now) a.state.now a.table.now a.list.now a.log.now a.cursor.now _ (λ i. omega (arith, c.slice_known-1.given i)) (short_state (initialized_in a.state.now a.table.now a.list.now a.log.now a.cursor.now).outcome _ _ t) }

pub initialize-requires : goal.initialize-requires
initialize-requires c = short_is _ _ (sym c.too_short.ensures ∙ c.if-too_short.false)

pub returns : goal.returns
returns c =
    let a = c.args in
    let g = c.initialize in
    let t = sym c.too_short.ensures ∙ c.if-too_short.false in record {
      cursor_after = begun_long a.state.now a.table.now a.list.now a.log.now a.cursor.now _ t
          (left_back (cursor_in a.cursor.now) _ a.list.now a.log.now a.cursor.now _ _ _ _ _ (g.ensures.cursor_after));
      leaves = initialize_leaves (too_short a.state.now a.cursor.now) a.state.now a.table.now a.list.now a.log.now a.cursor.now _ (λ i. omega (arith, c.slice_known-1.given i)) (long_state (initialized_in a.state.now a.table.now a.list.now a.log.now a.cursor.now).outcome _ _ _ t (g.ensures.after_of));
    }
