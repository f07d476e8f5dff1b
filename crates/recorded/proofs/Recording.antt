-- The loop that records ends at the last place.
use Prim.Native.Nat.{ℕ, ◌≤◌, ◌*◌, min}
use mathlib.Core.Path.{◌≡◌, sym, ap, ◌∙◌}
use native.Mathlib.Omega.{arith}
use mathlib.Core.Bool.{false}
use mathlib.Core.List.{List}
use lib.Dec.{ltb}
use lib.ListN.{get_or, set}
use lib.Seq.{set-get_or}
use borrow.Author.Tests.{ltb-true, ltb-false}
use Rattle.base.specs.Iter.{iter}
use Rattle.base.proofs.Loop.{pick_ind, pick_no, iter_done}
use Rattle.plan.specs.Words.{variables_of}
use Rattle.noting.specs.Words.{capped}
use Rattle.reasons.specs.declared.reason.Reason.TheVariants.{NotPropagated}
use Rattle.sweep.specs.Sweep.{proposed_at}
use Rattle.recorded.specs.declared.Recorded.{Recorded}
use Rattle.recorded.specs.declared.Reasons.{Reasons}
use Rattle.recorded.specs.Recorded.{newest, recorded, holding}

-- as the library takes it
pub capped_min : (n : ℕ) → min n 4352 ≡ capped n 4352
unfolding capped
capped_min n = pick_ind (λ i. min n 4352 ≡ i) (ltb n 4352) n 4352 (λ t. omega (arith, ltb-true n 4352 t)) (λ t. omega (arith, ltb-false n 4352 t))

pub reasons_eq : (r s : Reasons) → r.at ≡ s.at → r ≡ s
reasons_eq r s e = λ i. record { at = e i }

-- what stands at a place that is not proposed stays
pub recorded_idle : (words : List ℕ) (p : ℕ) (l : List Recorded) → proposed_at words p ≡ false →
    l ≡ set l p (newest words p (get_or l p (holding NotPropagated)))
unfolding newest
recorded_idle words p l e =
    sym (ap (set l p) (pick_no _ (get_or l p (holding NotPropagated)) e) ∙ set-get_or l p (holding NotPropagated))

pub recorded_done : (ws words : List ℕ) (rs t : Reasons) (n p k : ℕ) → k ≡ variables_of ws → n ≡ capped (2 * k) 4352 →
    t.at ≡ iter (λ p l. set l p (newest words p (get_or l p (holding NotPropagated)))) p rs.at → p ≤ n → n ≤ p → t ≡ recorded ws words rs
unfolding recorded
recorded_done ws words rs t n p k e h i l m =
    reasons_eq _ _ (iter_done _ _ _ _ _ i l m ∙ ap (λ j. iter (λ p l. set l p (newest words p (get_or l p (holding NotPropagated)))) j rs.at) (h ∙ ap (λ j. capped (2 * j) 4352) e))
