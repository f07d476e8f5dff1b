use Rattle.std.proofs.Common.{◌≡◌, ℕ, ◌<◌}
use Rattle.base.specs.Lists.{filled}
use Rattle.builder.proofs.fill.fill.Given as goal

abbrev pub invariant-loop-i : goal.invariant-loop-i
invariant-loop-i g l = (f : ℕ → ℕ) → ((i x : ℕ) → i < l.i → goal.F-post g l.value i x → x ≡ f i) → l.words ≡ filled l.from l.i f l.initial.words
