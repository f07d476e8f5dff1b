use Rattle.std.proofs.Common.{◌≡◌, ℕ, ◌+◌, ◌<◌, ◌≤◌, ◌⊎◌, slice_index}
use Rattle.base.specs.Lists.{filled}
use Rattle.base.proofs.fill.fill.Given as goal

abbrev pub invariant-loop-i : goal.invariant-loop-i
invariant-loop-i g l =
    ((f : ℕ → ℕ) → ((i x : ℕ) → i < l.i → g.W.Words.gives l.value i x → x ≡ f i) → l.words ≡ filled l.from l.i f l.initial.words)
    × ((i : ℕ) → i < l.i → g.W.Words.gives l.value i (slice_index l.words (l.from + i)))
    × ((k : ℕ) → (k < l.from) ⊎ (l.from + l.n ≤ k) → slice_index l.words k ≡ slice_index l.initial.words k)
