-- A loop that counts up, and a choice by a test: every definition of the project that computes is made of these two.
use Rattle.std.specs.Prelude.{ℕ, zero, suc, Bool, true, false}

-- f at 0, then at 1, and so on up to n - 1
unfoldable pub iter : {A : Type 0} → (ℕ → A → A) → ℕ → A → A
iter f zero a = a
iter f (suc n) a = f n (iter f n a)

-- a where the test is true, b where it is false
unfoldable pub pick : {A : Type 0} → Bool → A → A → A
pick true a b = a
pick false a b = b
