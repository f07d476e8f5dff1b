use mathlib.Core.Path.{ap, ◌∙◌}
use Prim.Native.Nat.{ℕ}
use lib.IntN.{pos, neg_ℤ}
use native.Mathlib.Omega.{arith}
use Rattle.base.proofs.Signed.{key_back}
use Rattle.byte_calls.specs.Codes.{fitted}
use Rattle.byte_calls.proofs.Filling.{capped_min}
use Rattle.byte_calls.proofs.codes.refusal_code.Goals as goal

pub returns : goal.returns
unfolding fitted
returns c = key_back c.min.result (omega arith) ∙ ap (λ (k : ℕ). neg_ℤ (pos k)) (capped_min _ _ _ c.min.ensures)
