-- A refusal and its number.
use Rattle.std.proofs.Common.{◌≡◌, ℕ, ◌<◌, refl, sym, ap, ◌∙◌, arith}
use Rattle.std.specs.Prelude.{Bool, true, false, Option, None, Some}
use Rattle.std.specs.Option.{is_some}
use Rattle.base.specs.declared.refusal.Refusal.{Refusal}
use Rattle.base.specs.declared.refusal.Refusal.TheVariants.{TooMany, WeightOutside, SizeWrong, LitCountWrong, LitOutside, EndWrong, StateBad, AlreadyInitialized, UnknownLit, Standing, NotNewest, ZeroSize, NoneCurrent, NoReason, PathGone, LineMalformed, NoRun, PageShort}
use Rattle.base.specs.Iter.{pick}
use Rattle.std.specs.Prelude.{eqb}
use mathlib.Core.Bool.{true≢false}
use borrow.Author.Tests.{eqb-true}
use Rattle.base.proofs.Loop.{pick_no, tested}
use Rattle.base.specs.Refusal.{number, number_or_0, refusal_with}

pub number_over_0 : (r : Refusal) → 0 < number r
number_over_0 TooMany = omega arith
number_over_0 WeightOutside = omega arith
number_over_0 SizeWrong = omega arith
number_over_0 LitCountWrong = omega arith
number_over_0 LitOutside = omega arith
number_over_0 EndWrong = omega arith
number_over_0 StateBad = omega arith
number_over_0 AlreadyInitialized = omega arith
number_over_0 UnknownLit = omega arith
number_over_0 Standing = omega arith
number_over_0 NotNewest = omega arith
number_over_0 ZeroSize = omega arith
number_over_0 NoneCurrent = omega arith
number_over_0 NoReason = omega arith
number_over_0 PathGone = omega arith
number_over_0 LineMalformed = omega arith
number_over_0 NoRun = omega arith
number_over_0 PageShort = omega arith

pub number_not_0 : (r : Refusal) (n : ℕ) → n ≡ number r → n ≡ 0 → ⊥
number_not_0 r n e z = let h = number_over_0 r in omega arith

pub none_is_0 : (o : Option Refusal) → is_some o ≡ false → number_or_0 o ≡ 0
none_is_0 None e = refl
none_is_0 (Some r) e = cc

pub some_is_not_0 : (o : Option Refusal) → is_some o ≡ true → number_or_0 o ≡ 0 → ⊥
some_is_not_0 None e z = cc
some_is_not_0 (Some r) e z = let h = number_over_0 r in omega arith

pub numbered_back : (o : Option Refusal) → refusal_with (number_or_0 o) ≡ o
unfolding pick
numbered_back None = refl
numbered_back (Some TooMany) = refl
numbered_back (Some WeightOutside) = refl
numbered_back (Some SizeWrong) = refl
numbered_back (Some LitCountWrong) = refl
numbered_back (Some LitOutside) = refl
numbered_back (Some EndWrong) = refl
numbered_back (Some StateBad) = refl
numbered_back (Some AlreadyInitialized) = refl
numbered_back (Some UnknownLit) = refl
numbered_back (Some Standing) = refl
numbered_back (Some NotNewest) = refl
numbered_back (Some ZeroSize) = refl
numbered_back (Some NoneCurrent) = refl
numbered_back (Some NoReason) = refl
numbered_back (Some PathGone) = refl
numbered_back (Some LineMalformed) = refl
numbered_back (Some NoRun) = refl
numbered_back (Some PageShort) = refl

-- 0 is no refusal's number, and no other number is none's
pub none_with_0 : (n : ℕ) → n ≡ 0 → refusal_with n ≡ None
unfolding pick
none_with_0 n e = ap refusal_with e

pub with_none : (n : ℕ) → refusal_with n ≡ None → n ≡ 0
with_none n e = tested (eqb n 0) (λ (t : eqb n 0 ≡ true). eqb-true n 0 t)
    (λ (f : eqb n 0 ≡ false). let z : is_some (refusal_with n) ≡ true = ap is_some (pick_no _ _ f) in absurd (true≢false (sym z ∙ ap is_some e)))
