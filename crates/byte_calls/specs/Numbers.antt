-- The numbers that building is given, as bytes: 4 bytes a number, the lowest first, in two's complement. A byte that is missing counts as 0.
use Rattle.std.specs.Prelude.{List, ℕ, ◌-◌, ◌*◌, ltb, ℤ, pos, negsuc, set, replicate}
use Rattle.base.specs.Iter.{iter, pick}
use Rattle.base.specs.Bytes.{word_at}

-- a word of 32 bits as a number with a sign
unfoldable pub signed_of : ℕ → ℤ
signed_of w = pick (ltb w 2147483648) (pos w) (negsuc (4294967295 - w))

-- number i of those that stand in the bytes
unfoldable pub int_at : List ℕ → ℕ → ℤ
int_at b i = signed_of (word_at b (4 * i))

-- the first n numbers
unfoldable pub numbers_in : ℕ → List ℕ → List ℤ
numbers_in n b = iter (λ i l. set l i (int_at b i)) n (replicate n (pos 0))
