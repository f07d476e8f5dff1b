-- A number with a sign, as one that is not negative or as one below 0.
use mathlib.Core.Path.{◌≡◌, refl, sym, ap}
use Prim.Native.Nat.{ℕ, zero, suc}
use lib.IntN.{ℤ, pos, negsuc, neg_ℤ}

-- n of n, 0 of a number below 0
unfoldable pub up : ℤ → ℕ
up (pos n) = n
up (negsuc n) = 0

pub up_negated : (n : ℕ) → up (neg_ℤ (pos n)) ≡ 0
unfolding up
up_negated zero = refl
up_negated (suc n) = refl

pub up_is : (z : ℤ) (n : ℕ) → z ≡ pos n → n ≡ up z
unfolding up
up_is z n e = sym (ap up e)

-- n of minus n
unfoldable pub down : ℤ → ℕ
down (pos n) = 0
down (negsuc n) = suc n

pub down_negated : (n : ℕ) → down (neg_ℤ (pos n)) ≡ n
unfolding down
down_negated zero = refl
down_negated (suc n) = refl
