use mathlib.Core.Path.{◌∙◌}
use Rattle.noting.proofs.Follow.{found_known}
use Rattle.plan.specs.Words.{words_of}
use Rattle.noting.proofs.note.known.Goals as goal

pub returns : goal.returns
returns c =
    let a = c.args in
    c.is_variable.ensures ∙ found_known (words_of a.plan.now) c.place_in.result a.x c.place_in.ensures
