use mathlib.Core.Path.{refl, ap, ◌∙◌}
use mir.Facts.{to_z-of_z}
use Rattle.graph_division.specs.Calls.{Fetched}
use Rattle.byte_calls.specs.Host.{given_in}
use Rattle.byte_calls.proofs.Undoing.{given_back, run_read}
use borrow.Author.Rules.{rules}
use Rattle.byte_calls.proofs.run.give_run.Goals as goal

pub returns : goal.returns
returns c =
    given_back _ _ _ _ (c.give.ensures
    ∙ ap (λ (y : Fetched). given_in y c.args.buffer.now) (c.find_run-answer.ensures ∙ run_read _ refl refl (to_z-of_z c.ranges.from) (to_z-of_z c.ranges.to) refl))
