-- Sums over sets of vertices.
use Prim.Native.Nat.{ℕ, zero, suc, ◌+◌, ◌*◌, ◌<◌, ◌≤◌, zero-le}
use native.Mathlib.Omega.{arith}
use native.Mathlib.Nat.{le_step, lt-suc_self, le_refl}
use mathlib.Core.Path.{◌≡◌, refl}
use mathlib.Core.Bool.{Bool, true, false, not, ◌&&◌, false≢true}
use Rattle.base.specs.Iter.{pick}
use Rattle.base.specs.Lists.{total}

pick_le : (b c : Bool) (x : ℕ) → (b ≡ true → c ≡ true) → pick b x 0 ≤ pick c x 0
unfolding pick
pick_le true true x h = le_refl x
pick_le true false x h = absurd (false≢true (h refl))
pick_le false c x h = zero-le

-- what takes in more weighs no less
pub total_le : (b c : ℕ → Bool) (w : ℕ → ℕ) (n : ℕ) → ((i : ℕ) → i < n → b i ≡ true → c i ≡ true) → total b w n ≤ total c w n
unfolding total
total_le b c w zero h = zero-le
total_le b c w (suc n) h = omega (arith, total_le b c w n (λ i k. h i (le_step k)), pick_le (b n) (c n) (w n) (h n (lt-suc_self n)))

pick_parts : (b c : Bool) (x : ℕ) → (b ≡ true → c ≡ true) → pick b x 0 + pick (c && not b) x 0 ≤ pick c x 0
unfolding pick
pick_parts true true x h = omega arith
pick_parts true false x h = absurd (false≢true (h refl))
pick_parts false true x h = omega arith
pick_parts false false x h = omega arith

-- a part and the rest
pub total_parts : (b c : ℕ → Bool) (w : ℕ → ℕ) (n : ℕ) → ((i : ℕ) → i < n → b i ≡ true → c i ≡ true) → total b w n + total (λ i. c i && not (b i)) w n ≤ total c w n
unfolding total
total_parts b c w zero h = le_refl 0
total_parts b c w (suc n) h = omega (arith, total_parts b c w n (λ i k. h i (le_step k)), pick_parts (b n) (c n) (w n) (h n (lt-suc_self n)))

pick_most : (b : Bool) (x m : ℕ) → x ≤ m → pick b x 0 ≤ m
unfolding pick
pick_most true x m h = h
pick_most false x m h = zero-le

pub total_most : (b : ℕ → Bool) (w : ℕ → ℕ) (m n : ℕ) → ((i : ℕ) → i < n → w i ≤ m) → total b w n ≤ n * m
unfolding total
total_most b w m zero h = zero-le
total_most b w m (suc n) h = omega (arith, total_most b w m n (λ i k. h i (le_step k)), pick_most (b n) (w n) m (h n (lt-suc_self n)))
