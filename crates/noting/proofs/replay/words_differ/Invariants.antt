use mathlib.Core.Path.{◌≡◌}
use Rattle.base.specs.Lists.{some}
use Rattle.noting.specs.Following.{word_differs}
use Rattle.noting.proofs.replay.words_differ.Given as goal

abbrev pub invariant-loop-i : goal.invariant-loop-i
invariant-loop-i l = (l.found ≡ some (word_differs l.a l.b l.from) l.i)
