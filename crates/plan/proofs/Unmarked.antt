-- Words without the mark of a plan that was built fail the plan's own test.
use mathlib.Core.Path.{◌≡◌}
use mathlib.Core.Bool.{true}
use mathlib.Core.List.{List}
use Prim.Native.Nat.{ℕ}
use native.Mathlib.Omega.{arith}
use lib.ListN.{replicate, get_or-replicate}
use Rattle.base.proofs.Loop.{tested}
use Rattle.plan.specs.Words.{mark_of, built_mark}
use Rattle.plan.specs.Check.{plan_bad}
use Rattle.plan.proofs.Proper.{proper}

pub unmarked_bad : (ws : List ℕ) (ends : List (List ℕ)) → (mark_of ws ≡ built_mark → ⊥) → plan_bad ws ends ≡ true
unmarked_bad ws ends none = tested (plan_bad ws ends) (λ t. t) (λ f. absurd (none (proper ws ends f).mark))

-- memory that was never built, all zeros, is no plan
pub zeros_bad : (ends : List (List ℕ)) → plan_bad (replicate 15241 0) ends ≡ true
zeros_bad ends =
    let z : mark_of (replicate 15241 0) ≡ 0 = get_or-replicate 15241 6 0 0 (omega arith) in
    unmarked_bad (replicate 15241 0) ends (λ (e : mark_of (replicate 15241 0) ≡ built_mark). omega arith)
