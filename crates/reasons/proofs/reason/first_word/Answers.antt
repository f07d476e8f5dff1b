use Prim.Native.Nat.{ℕ}
use mathlib.Core.Path.{sym, ap, ◌∙◌}
use Rattle.reasons.specs.Words.{packed}
use Rattle.reasons.specs.Reason.{first_word_of}
use Rattle.reasons.proofs.Back.{bool_bit}
use Rattle.reasons.proofs.reason.first_word.Goals as goal

pub returns-in-EdgeBetweenDifferentGroups : goal.returns-in-EdgeBetweenDifferentGroups
unfolding first_word_of
returns-in-EdgeBetweenDifferentGroups c =
    c.word-in-EdgeBetweenDifferentGroups.ensures
    ∙ ap (λ (y : ℕ). packed 2 c.in-EdgeBetweenDifferentGroups.h c.in-EdgeBetweenDifferentGroups.g y 0) (c.from.ensures ∙ bool_bit _)
    ∙ sym (ap first_word_of c.in-EdgeBetweenDifferentGroups.is)

pub returns-in-InconsistentBoundsIfRegionsAreMerged : goal.returns-in-InconsistentBoundsIfRegionsAreMerged
unfolding first_word_of
returns-in-InconsistentBoundsIfRegionsAreMerged c =
    c.word-in-InconsistentBoundsIfRegionsAreMerged.ensures
    ∙ ap (packed 6 _ _ _) (c.from-in-InconsistentBoundsIfRegionsAreMerged.ensures ∙ bool_bit _)
    ∙ sym (ap first_word_of c.in-InconsistentBoundsIfRegionsAreMerged.is)
