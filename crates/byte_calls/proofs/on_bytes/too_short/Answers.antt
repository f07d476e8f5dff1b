use mathlib.Core.Path.{refl, ◌∙◌}
use borrow.Author.Tests.{lt-ltb, le-ltb}
use Rattle.base.proofs.Tests.{or_yes, or_next}
use Rattle.byte_calls.specs.Host.{too_short}
use Rattle.byte_calls.proofs.on_bytes.too_short.Goals as goal

pub returns-then-state-lt133440 : goal.returns-then-state-lt133440
unfolding too_short
returns-then-state-lt133440 c = let t = lt-ltb _ _ c.if-state-lt133440.true in t ∙ or_yes _ t

pub returns-else-state-lt133440 : goal.returns-else-state-lt133440
unfolding too_short
returns-else-state-lt133440 c = or_next _ _ (le-ltb _ _ c.if-state-lt133440.false) refl
