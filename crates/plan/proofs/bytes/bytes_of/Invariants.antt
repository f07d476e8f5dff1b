use Rattle.std.proofs.Common.{◌≡◌, ℕ, ◌<◌, get_or}
use Rattle.base.specs.Bytes.{put_words}
use Rattle.plan.proofs.bytes.bytes_of.Given as goal

abbrev pub invariant-loop-i : goal.invariant-loop-i
invariant-loop-i l = (l.bytes ≡ put_words 0 l.words l.i l.initial.bytes) × ((j : ℕ) → j < l.i → get_or l.words j 0 < 4294967296)
