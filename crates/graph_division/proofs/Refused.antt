-- "Building gives the lowest number that applies", of what `GraphDivision::new` gives.
use mathlib.Core.Path.{◌≡◌, sym, subst, ◌∙◌}
use mathlib.Core.Bool.{Bool}
use mathlib.Core.List.{List}
use Prim.Native.Nat.{ℕ, ◌<◌}
use lib.IntN.{ℤ}
use Rattle.base.specs.Refusal.{number_or_0}
use Rattle.builder.specs.Input.{refusal}
use Rattle.builder.specs.Applies.{applies, Lowest}
use Rattle.builder.proofs.Lowest.{numbered, refused, answered}
use Rattle.graph_division.specs.New.{built}

module _ (vs : List ℤ) (n : ℕ) (es : List ℤ) (m : ℕ) (sameSize extraWalls : Bool) where
  -- its refusal has the number that the tests 1 to 6 give, and there is none where they give 0
  pub built_refusal : number_or_0 (built vs n es m sameSize extraWalls).refusal ≡ refusal vs n es m
  unfolding built
  built_refusal = numbered vs n es m

  -- it is refused with the lowest that applies
  pub built_refused : 0 < number_or_0 (built vs n es m sameSize extraWalls).refusal → Lowest (applies vs n es m) (number_or_0 (built vs n es m sameSize extraWalls).refusal)
  built_refused h =
      let e = built_refusal in
      subst (λ (k : ℕ). Lowest (applies vs n es m) k) (sym e) (refused vs n es m (subst (λ (k : ℕ). 0 < k) e h))

  -- and the lowest that applies is what it is refused with
  pub built_answered : (k : ℕ) → Lowest (applies vs n es m) k → number_or_0 (built vs n es m sameSize extraWalls).refusal ≡ k
  built_answered k p = built_refusal ∙ answered vs n es m k p
