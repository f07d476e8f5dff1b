-- The lowest vertex whose bounds cross, of words and of the state that they stand for.
use mathlib.Core.Path.{◌≡◌, refl, ap}
use mathlib.Core.List.{List}
use Prim.Native.Nat.{ℕ, ◌≤◌}
use native.Mathlib.Omega.{arith}
use borrow.Author.Tests.{ltb-false}
use Rattle.base.proofs.Loop.{pick_ind}
use Rattle.division.specs.Regions.{lowest}
use Rattle.division.specs.State.{crossed_at}
use Rattle.plan.specs.Words.{vertices_of}
use Rattle.plan.specs.Plan.{plan_of}
use Rattle.noting.specs.Words.{state_of, capped, crosses, crossed_in}

capped_whole : (n most : ℕ) → n ≤ most → capped n most ≡ n
unfolding capped
capped_whole n most h = pick_ind (λ x. x ≡ n) _ _ _ (λ _. refl) (λ f. let g = ltb-false n most f in omega arith)

pub crossed_is : (ws : List ℕ) (ends : List (List ℕ)) (noted : List ℕ) → vertices_of ws ≤ 64 →
    crossed_in ws noted ≡ crossed_at (plan_of ws ends) (state_of noted)
unfolding crossed_in crossed_at crosses
crossed_is ws ends noted h = ap (lowest (crosses noted)) (capped_whole _ _ h)
