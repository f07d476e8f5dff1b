use Rattle.std.proofs.Common.{◌≡◌, ℕ, ◌<◌}
use Rattle.base.specs.Lists.{filled}
use Rattle.views.proofs.compute.fill.Given as goal

abbrev pub invariant-loop-v : goal.invariant-loop-v
invariant-loop-v g l = (f : ℕ → ℕ) → ((v x : ℕ) → v < l.v → goal.F-post g l.value v x → x ≡ f v) → l.words ≡ filled l.from l.v f l.initial.words
