use mathlib.Core.Path.{◌≡◌}
use Rattle.base.specs.Lists.{filled}
use Rattle.noting.specs.Words.{first_size, last_size}
use Rattle.plan.specs.Words.{words_of}
use Rattle.noting.proofs.fill_sizes.Given as goal

abbrev pub invariant-loop-i : goal.invariant-loop-i
invariant-loop-i l = (l.noted ≡ filled 192 l.i (last_size (words_of l.plan)) (filled 128 l.i (first_size (words_of l.plan)) l.initial.noted))
