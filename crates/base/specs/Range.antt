-- Numbers from outside, which are i32: range tests, and the natural number that one is.
use Rattle.std.specs.Prelude.{Bool, false, ℕ, ℤ, pos, negsuc}
use Rattle.std.specs.Int.Signed.{le_z}

-- from 0 to `most`
unfoldable pub in_range : ℤ → ℤ → Bool
in_range most (pos n) = le_z (pos n) most
in_range most (negsuc n) = false

-- the number itself, and 0 for a negative one
unfoldable pub to_nat : ℤ → ℕ
to_nat (pos n) = n
to_nat (negsuc n) = 0
