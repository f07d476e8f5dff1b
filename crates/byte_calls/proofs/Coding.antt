-- A number that a call answered, handed on.
use Prim.Native.Nat.{ℕ, zero, suc, ◌≤◌}
use native.Mathlib.Omega.{arith}
use mathlib.Core.Path.{◌≡◌, refl, sym, ap, ◌∙◌}
use lib.IntN.{ℤ, pos, negsuc, neg_ℤ}
use lib.Signed.{mag}
use mir.Syntax.{w32}
use mir.Val.{to_z, of_z}
use Rattle.base.proofs.Range.{reads_back}
use Rattle.graph_division.specs.declared.Answer.{Answer}
use Rattle.graph_division.specs.declared.Answer.TheVariants.{Consistent, Conflict, Noted, Undone, Reason, Run, Page, Refused}
use Rattle.byte_calls.specs.Codes.{fitted, answer_code}
use Rattle.byte_calls.proofs.Filling.{cap_most}

fitted_most : (n : ℕ) → fitted n ≤ 2147483647
unfolding fitted
fitted_most n = cap_most (fitted n) n 2147483647 refl

pub pos_back : (n : ℕ) → n ≤ 2147483647 → to_z w32 (of_z w32 (pos n)) ≡ pos n
pos_back n h = reads_back (pos n) (omega arith)

pub neg_back : (n : ℕ) → n ≤ 2147483647 → to_z w32 (of_z w32 (neg_ℤ (pos n))) ≡ neg_ℤ (pos n)
neg_back zero h = reads_back (pos 0) (omega arith)
neg_back (suc n) h = reads_back (negsuc n) (omega arith)

pub fitted_pos : (n : ℕ) (z : ℤ) → z ≡ pos (fitted n) → to_z w32 (of_z w32 z) ≡ pos (fitted n)
fitted_pos n z e = ap (λ (y : ℤ). to_z w32 (of_z w32 y)) e ∙ pos_back (fitted n) (fitted_most n)

pub fitted_neg : (n : ℕ) (z : ℤ) → z ≡ neg_ℤ (pos (fitted n)) → to_z w32 (of_z w32 z) ≡ neg_ℤ (pos (fitted n))
fitted_neg n z e = ap (λ (y : ℤ). to_z w32 (of_z w32 y)) e ∙ neg_back (fitted n) (fitted_most n)

code_is_back : (a : Answer) → to_z w32 (of_z w32 (answer_code a)) ≡ answer_code a
unfolding answer_code
code_is_back (Consistent n) = pos_back (fitted n) (fitted_most n)
code_is_back Conflict = reads_back (negsuc 99) (omega arith)
code_is_back Noted = reads_back (negsuc 100) (omega arith)
code_is_back Undone = reads_back (pos 0) (omega arith)
code_is_back (Reason n) = pos_back (fitted n) (fitted_most n)
code_is_back (Run n) = pos_back (fitted n) (fitted_most n)
code_is_back (Page n) = pos_back (fitted n) (fitted_most n)
code_is_back (Refused n) = neg_back (fitted n) (fitted_most n)

pub code_back : (a : Answer) (z : ℤ) → z ≡ answer_code a → to_z w32 (of_z w32 z) ≡ answer_code a
code_back a z e = ap (λ (y : ℤ). to_z w32 (of_z w32 y)) e ∙ code_is_back a
