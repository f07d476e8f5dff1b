-- The least of three numbers, and when there is a newest record.
use Prim.Native.Nat.{ℕ, ◌≤◌, min}
use native.Mathlib.Omega.{arith}
use mathlib.Core.Path.{◌≡◌}
use mathlib.Core.Bool.{true}
use lib.Dec.{ltb, leb}
use borrow.Author.Tests.{ltb-true, ltb-false, leb-true}
use Rattle.base.proofs.Loop.{pick_ind}
use Rattle.base.proofs.Tests.{and_left, and_right}
use Rattle.lent_log.specs.Records.{has_newest, least}

-- as the library takes it
pub least_min : (a b c : ℕ) → least a b c ≡ min (min a b) c
unfolding least
least_min a b c = pick_ind (λ m. m ≡ min (min a b) c) (ltb b a) _ _
    (λ e. pick_ind (λ m. m ≡ min (min a b) c) (ltb c b) c b
    (λ f. omega (arith, ltb-true b a e, ltb-true c b f))
    (λ f. omega (arith, ltb-true b a e, ltb-false c b f)))
    (λ e. pick_ind (λ m. m ≡ min (min a b) c) (ltb c a) c a
    (λ f. omega (arith, ltb-true c a f, ltb-false b a e))
    (λ f. omega (arith, ltb-false b a e, ltb-false c a f)))

-- the first, where it is no more than the others
pub least_first : (a b c : ℕ) → a ≤ b → a ≤ c → least a b c ≡ a
unfolding least
least_first a b c h k = pick_ind (λ m. m ≡ a) (ltb b a) _ _
    (λ e. absurd (omega (arith, ltb-true b a e)))
    (λ e. pick_ind (λ m. m ≡ a) (ltb c a) c a (λ f. absurd (omega (arith, ltb-true c a f))) (λ f. omega arith))

pub newest_there : (used len : ℕ) → has_newest used len ≡ true → (1 ≤ used) × (used ≤ len)
unfolding has_newest
newest_there used len e = (ltb-true 0 used (and_left (ltb 0 used) (leb used len) e), leb-true used len (and_right (ltb 0 used) (leb used len) e))
