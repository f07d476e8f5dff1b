use mathlib.Core.Path.{◌≡◌}
use Rattle.base.specs.Iter.{iter}
use Rattle.plan.specs.Words.{word}
use Rattle.walks.specs.Written.{out_of, pushed}
use Rattle.lent.proofs.fetch.copy.Given as goal

abbrev pub invariant-loop-i : goal.invariant-loop-i
invariant-loop-i l = out_of l.buffer l.at ≡ iter (λ j o. pushed (word l.list j) o) l.i (out_of l.initial.buffer 0)
