-- The words of a refused build are those of memory that was never built: all zeros, without the mark, and no plan.
use mathlib.Core.Path.{◌≡◌, ap, ◌∙◌}
use mathlib.Core.Bool.{Bool, true}
use mathlib.Core.List.{List}
use Prim.Native.Nat.{ℕ}
use lib.IntN.{ℤ}
use lib.ListN.{replicate}
use borrow.Author.Tests.{ne_eqb}
use Rattle.base.proofs.Loop.{pick_no}
use Rattle.plan.specs.Check.{plan_bad}
use Rattle.plan.proofs.Unmarked.{zeros_bad}
use Rattle.builder.specs.Input.{refusal}
use Rattle.builder.specs.Build.{plan_words}

module _ (vs : List ℤ) (n : ℕ) (es : List ℤ) (m : ℕ) (a b : Bool) (r : refusal vs n es m ≡ 0 → ⊥) where
  pub refused_zeros : plan_words vs n es m a b ≡ replicate 15241 0
  unfolding plan_words
  refused_zeros = pick_no _ _ (ne_eqb (refusal vs n es m) 0 r)

  pub refused_bad : (ends : List (List ℕ)) → plan_bad (plan_words vs n es m a b) ends ≡ true
  refused_bad ends = ap (λ (ws : List ℕ). plan_bad ws ends) refused_zeros ∙ zeros_bad ends
