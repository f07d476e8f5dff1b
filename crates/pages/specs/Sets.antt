-- Document 02, request 3: "The region is kept as a set of 64 bits, one bit a pen, and its pens are counted from that
-- set."
use Rattle.std.specs.Prelude.{ℕ, zero, suc, ◌+◌, ◌*◌, Bool, eqb}
use Rattle.base.specs.Iter.{pick}

-- k bits from number v on: bit i is set where v + i is a member
unfoldable pub bits : (ℕ → Bool) → ℕ → ℕ → ℕ
bits b v zero = 0
bits b v (suc k) = pick (b v) 1 0 + 2 * bits b (suc v) k

-- of n vertices, those with label r
unfoldable pub set_of : (ℕ → ℕ) → ℕ → ℕ → ℕ
set_of label n r = bits (λ v. eqb (label v) r) 0 n
