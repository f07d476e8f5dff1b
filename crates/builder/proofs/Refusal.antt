-- The refusals, case by case as the code comes to them, and what holds of an input that passes.
use mathlib.Core.Path.{◌≡◌, sym, ap, ap₂, ◌∙◌}
use mathlib.Core.Bool.{Bool, true, false, not, ◌&&◌, ◌||◌}
use mathlib.Core.List.{List}
use Prim.Native.Nat.{ℕ, ◌+◌, ◌-◌, ◌≤◌, ◌<◌}
use native.Mathlib.Omega.{arith}
use lib.IntN.{ℤ, pos}
use lib.Signed.{lt_z}
use lib.Dec.{eqb, ltb}
use borrow.Author.Tests.{lt-ltb, le-ltb, ltb-false}
use Rattle.base.specs.Range.{in_range, to_nat}
use Rattle.base.proofs.Tests.{or_none, not_false}
use Rattle.base.proofs.Some.{some_none}
use Rattle.base.proofs.Range.{in_range_nat}
use Rattle.builder.specs.Input.{sizes_at, len_at, lits_at, size_at, sizes_outside, too_many, size_wrong, lit_count_wrong_at, is_vertex}

-- what refusal 1 leaves: the counts are within their limits
pub record Counted (vs : List ℤ) (n m : ℕ) : Type 0 where
  pub vertices : n ≤ 64
  pub edges : m ≤ 128
  pub sizes : (v : ℕ) → v < n → len_at vs v ≤ 32

pub counted : (vs : List ℤ) (n m : ℕ) → too_many vs n m ≡ false → Counted vs n m
counted vs n m e =
    let (a, b) = or_none (ltb 64 n) (ltb 128 m || sizes_outside vs n) e in
    let (c, d) = or_none (ltb 128 m) (sizes_outside vs n) b in
    record {
      vertices = ltb-false 64 n a;
      edges = ltb-false 128 m c;
      sizes = λ v h. in_range_nat 32 (sizes_at vs v) (not_false _ (some_none (λ v. not (in_range (pos 32) (sizes_at vs v))) n d v h));
    }
