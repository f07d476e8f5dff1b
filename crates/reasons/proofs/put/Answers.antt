use mathlib.Core.Path.{ap, ◌∙◌}
use Prim.Native.Nat.{◌+◌, ◌%◌, ◌^◌, ◌≤◌}
use native.Mathlib.Omega.{arith}
use native.Mathlib.Nat.{one-mul}
use lib.Bits.{bit_or}
use lib.Pow.{shl_exact}
use Rattle.reasons.proofs.Marks.{put_stores, put_past, put_short}
use Rattle.reasons.proofs.put.Goals as goal
use Rattle.reasons.proofs.put.Goals.{else-q-proposals-via-then-q-proposals+else-q-lt4352, else-q-proposals-via-else-q-proposals}

pub returns-then-q-lt4352 : goal.returns-then-q-lt4352
returns-then-q-lt4352 c =
    let i = c.args.p % 64 in
    let h : 1 + i ≤ 64 = omega arith in
    let e = shl_exact {a = 1} 1 i 64 (omega arith) h in
    put_stores _ _ _ _ (omega arith) (omega arith) _ (ap (bit_or _) (e ∙ one-mul (2 ^ i)))

pub returns-else-q-proposals : goal.returns-else-q-proposals
returns-else-q-proposals c =
    elim c.else-q-proposals.branch [
      | else-q-proposals-via-then-q-proposals+else-q-lt4352 w ↦ put_past _ _ _ _ (omega arith)
      | else-q-proposals-via-else-q-proposals w ↦ put_short _ _ _ _ (omega arith)
    ]
