-- A state's bytes 24 to 27 hold the mark of a plan that was built: bytes without it, such as memory of zeros, are no plan.
use mathlib.Core.Path.{◌≡◌, sym, ◌∙◌}
use mathlib.Core.List.{List}
use Prim.Native.Nat.{ℕ, ◌+◌, ◌*◌, ◌<◌}
use native.Mathlib.Omega.{arith}
use lib.ListN.{replicate, length-replicate}
use Rattle.base.proofs.Filled.{filled_in}
use Rattle.plan.specs.Words.{mark_of, built_mark}
use Rattle.graph_division.specs.NoPlan.{NoPlan}
use Rattle.graph_division.proofs.NoPlan.{unmarked_no_plan}
use Rattle.base.specs.Bytes.{word_at, words_in}
use Rattle.byte_calls.specs.Layout.{plan_in}

-- the mark of the plan that the bytes stand for
pub mark_in : (b : List ℕ) → mark_of (plan_in b) ≡ word_at b 24
unfolding plan_in words_in
mark_in b = filled_in 0 (λ i. word_at b (0 + 4 * i)) (replicate 15241 0) 15241 6 (omega arith) (omega (arith, length-replicate {A = ℕ} 15241 0))

-- bytes without the mark are no plan: each call on the state that they stand for is refused with 7
pub unmarked_bytes : (b : List ℕ) → (word_at b 24 ≡ built_mark → ⊥) → NoPlan (plan_in b)
unmarked_bytes b none = unmarked_no_plan (plan_in b) (λ (e : mark_of (plan_in b) ≡ built_mark). none (sym (mark_in b) ∙ e))
