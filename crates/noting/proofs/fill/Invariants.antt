use mathlib.Core.Path.{◌≡◌}
use Rattle.base.specs.Lists.{filled}
use Rattle.noting.proofs.fill.Given as goal

abbrev pub invariant-loop-v : goal.invariant-loop-v
invariant-loop-v l = l.noted ≡ filled l.from l.v (λ _. l.x) l.initial.noted
