use mathlib.Core.Path.{refl, sym, ap, ◌∙◌}
use mir.Facts.{to_z-of_z}
use Rattle.graph_division.specs.Calls.{Fetched}
use Rattle.byte_calls.specs.Host.{given_in}
use Rattle.byte_calls.proofs.Undoing.{given_back, run_read}
use Rattle.byte_calls.proofs.Leaving.{short_is, short_run, long_run}
use borrow.Author.Rules.{rules}
use Rattle.byte_calls.proofs.on_bytes.run.Goals as goal

pub returns-then-too_short : goal.returns-then-too_short
returns-then-too_short c =
    let a = c.args in
    short_run a.state.now a.log.now a.cursor.now _ _ _ (sym c.too_short.ensures ∙ c.if-too_short.true)

pub run-requires : goal.run-requires
run-requires c = short_is _ _ (sym c.too_short.ensures ∙ c.if-too_short.false)

pub returns : goal.returns
returns c =
    let b = c.args.buffer.now in
    long_run c.args.state.now c.args.log.now c.args.cursor.now _ _ _ _ (sym c.too_short.ensures ∙ c.if-too_short.false)
    (given_back _ _ _ _ (c.run.ensures
    ∙ ap (λ (y : Fetched). given_in y b) (run_read _ refl refl (to_z-of_z c.ranges.from) (to_z-of_z c.ranges.to) refl)))
