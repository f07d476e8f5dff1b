-- A bound is due to at most one literal, and on a proper plan it fits.
use Prim.Native.Nat.{zero-le, ℕ, ◌<◌, ◌≤◌}
use native.Mathlib.Nat.{le_refl}
use native.Mathlib.Omega.{arith}
use lib.ListN.{length}
use mathlib.Core.List.{List}
use Rattle.division.specs.Plan.{Plan, Proper}
use Rattle.division.specs.Noted.{Lower, Upper}

-- a bound has at most one literal
pub low_one : (d : Plan) (v : ℕ) {b : ℕ} {ls : List ℕ} → Lower d v b ls → length ls ≤ 1
low_one d v (Lower.free a e q) = rw q zero-le
low_one d v (Lower.least a e q) = rw q zero-le
low_one d v (Lower.lit j a e q) = rw q (le_refl 1)

pub high_one : (d : Plan) (v : ℕ) {b : ℕ} {ls : List ℕ} → Upper d v b ls → length ls ≤ 1
high_one d v (Upper.free a e q) = rw q zero-le
high_one d v (Upper.last i a e q) = rw q zero-le
high_one d v (Upper.lit j a e q) = rw q (le_refl 1)

-- a lower bound is a size or none, an upper bound a size or unlimited
pub low_fits : (d : Plan) → Proper d → (v : ℕ) → v < d.vertices → {b : ℕ} {ls : List ℕ} → Lower d v b ls → b ≤ 1000000
low_fits d k v h (Lower.free a e q) = omega arith
low_fits d k v h (Lower.least a e q) = omega (arith, k.entries v 0 h a)
low_fits d k v h (Lower.lit j a e q) = omega (arith, k.entries v _ h a)

pub high_fits : (d : Plan) → Proper d → (v : ℕ) → v < d.vertices → {b : ℕ} {ls : List ℕ} → Upper d v b ls →
    b ≤ 2147483647
high_fits d k v h (Upper.free a e q) = omega arith
high_fits d k v h (Upper.last i a e q) = omega (arith, k.entries v i h (omega arith))
high_fits d k v h (Upper.lit j a e q) = omega (arith, k.entries v j h (omega arith))
