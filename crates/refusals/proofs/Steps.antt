-- Tests in a row, as code that returns at the first that passes goes along them.
use mathlib.Core.Path.{◌≡◌, refl, sym, ◌∙◌}
use mathlib.Core.Bool.{Bool, true, false, not, false≢true}
use Prim.Native.Nat.{ℕ}
use Rattle.base.specs.Iter.{pick}
use Rattle.base.proofs.Loop.{pick_yes, pick_no}

pub not_true : (a : Bool) → not a ≡ true → a ≡ false
not_true true e = absurd (false≢true e)
not_true false e = refl

-- a test whose answer x the code has: it passes, or it fails and the answer is that of the next
pub stop : {b : Bool} (n m : ℕ) (x : Bool) → x ≡ b → x ≡ true → n ≡ pick b n m
stop n m x e h = sym (pick_yes n m (sym e ∙ h))

pub go_on : {b : Bool} (n m r : ℕ) (x : Bool) → x ≡ b → x ≡ false → r ≡ m → r ≡ pick b n m
go_on n m r x e h f = f ∙ sym (pick_no n m (sym e ∙ h))
