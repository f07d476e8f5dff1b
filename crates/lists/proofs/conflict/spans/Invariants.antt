use lib.ListN.{length, get_or}
use mathlib.Core.Path.{◌≡◌}
use Rattle.base.specs.Iter.{iter}
use Rattle.walks.specs.Answers.{answer_of}
use Rattle.lists.specs.Conflicts.{span_after}
use Rattle.lists.proofs.conflict.spans.Given as goal

abbrev pub invariant-loop-i : goal.invariant-loop-i
invariant-loop-i l = (answer_of l.a l.out ≡ iter (λ i x. span_after l.noted (get_or l.chosen i 0) x) l.i (answer_of l.initial.a l.initial.out)) × (length l.out ≡ length l.initial.out)
