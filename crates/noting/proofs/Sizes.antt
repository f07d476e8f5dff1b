-- What is capped is within its limit.
use mathlib.Core.Path.{◌≡◌, sym, ◌∙◌}
use Prim.Native.Nat.{ℕ, ◌≤◌, min}
use native.Mathlib.Omega.{arith}
use lib.Dec.{ltb}
use borrow.Author.Tests.{ltb-true, ltb-false}
use Rattle.base.proofs.Loop.{pick_ind, pick_yes, pick_no, tested}
use Rattle.noting.specs.Words.{capped}

pub capped_le : (n most : ℕ) → capped n most ≤ most
unfolding capped
capped_le n most = pick_ind (λ (k : ℕ). k ≤ most) (ltb n most) n most (λ e. let h = ltb-true n most e in omega arith) (λ e. omega arith)

-- `min` of the library's
pub min_capped : (n most : ℕ) → min n most ≡ capped n most
unfolding capped
min_capped n most = tested (ltb n most)
    (λ e. let h = ltb-true n most e in let m : min n most ≡ n = omega arith in m ∙ sym (pick_yes n most e))
    (λ e. let h = ltb-false n most e in let m : min n most ≡ most = omega arith in m ∙ sym (pick_no n most e))
