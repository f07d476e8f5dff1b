-- Tests joined by and, or; two numbers in order.
use Prim.Native.Nat.{ℕ, ◌<◌, ◌≤◌}
use native.Mathlib.Omega.{arith}
use native.Mathlib.Decide.{dec_le}
use mathlib.Core.Path.{◌≡◌, refl, sym, ap, ◌∙◌}
use mathlib.Core.Logic.{◌⊎◌, inl, inr}
use mathlib.Core.Bool.{Bool, true, false, not, ◌&&◌, ◌||◌, false≢true, true≢false}

pub and_left : (a b : Bool) → (a && b) ≡ true → a ≡ true
and_left true b e = refl
and_left false b e = e

pub and_right : (a b : Bool) → (a && b) ≡ true → b ≡ true
and_right true b e = e
and_right false b e = absurd (false≢true e)

pub or_cases : (a b : Bool) → (a || b) ≡ true → (a ≡ true) ⊎ (b ≡ true)
or_cases true b e = inl refl
or_cases false b e = inr e

pub and_rest : (a b : Bool) → a ≡ true → (a && b) ≡ false → b ≡ false
and_rest true b e f = f
and_rest false b e f = absurd (false≢true e)

pub le_or_lt : (m n : ℕ) → (m ≤ n) ⊎ (n < m)
le_or_lt m n = elim (dec_le m n) [ yes e ↦ inl e | no f ↦ inr (omega arith) ]

pub or_none : (a b : Bool) → (a || b) ≡ false → (a ≡ false) × (b ≡ false)
or_none true b e = absurd (true≢false e)
or_none false b e = (refl, e)

pub not_false : (a : Bool) → not a ≡ false → a ≡ true
not_false true e = refl
not_false false e = absurd (true≢false e)

-- a chain of tests, as code that returns at the first that passes goes along it
pub or_yes : {a : Bool} (b : Bool) → a ≡ true → true ≡ (a || b)
or_yes b e = sym (ap (λ (t : Bool). t || b) e)

pub or_next : {a : Bool} (b x : Bool) → a ≡ false → x ≡ b → x ≡ (a || b)
or_next b x e f = f ∙ sym (ap (λ (t : Bool). t || b) e)

pub and_no : {a : Bool} (b : Bool) → a ≡ false → false ≡ (a && b)
and_no b e = sym (ap (λ (t : Bool). t && b) e)

pub and_next : {a : Bool} (b x : Bool) → a ≡ true → x ≡ b → x ≡ (a && b)
and_next b x e f = f ∙ sym (ap (λ (t : Bool). t && b) e)

pub or_both : {a b : Bool} → a ≡ false → b ≡ false → (a || b) ≡ false
or_both {a} {b} e f = ap (λ (t : Bool). t || b) e ∙ f

pub and_either : {a b : Bool} → (a ≡ true → b ≡ false) → (a && b) ≡ false
and_either {a} {b} h = go a refl
  where
    go : (t : Bool) → a ≡ t → (a && b) ≡ false
    go true e = ap (λ (t : Bool). t && b) e ∙ h e
    go false e = ap (λ (t : Bool). t && b) e
