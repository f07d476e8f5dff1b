use Prim.Native.Nat.{◌+◌, ◌-◌}
use native.Mathlib.Omega.{arith}
use mathlib.Core.Path.{◌≡◌, sym, ◌∙◌}
use Rattle.analysis.proofs.Matching.{end_none, end_found, end_next}
use Rattle.analysis.proofs.step1.disconnected_end.Goals as goal

pub returns-then-is_disconnected : goal.returns-then-is_disconnected
returns-then-is_disconnected c =
    let z : c.loop-h.h - 1 + 1 ≡ c.loop-h.h = omega arith in
    z ∙ end_found _ _ _ (omega arith) (sym c.is_disconnected.ensures ∙ c.if-is_disconnected.true) c.loop-h.invariant

pub loop-h-preserved : goal.loop-h-preserved
loop-h-preserved c = end_next _ _ _ (omega arith) (sym c.is_disconnected.ensures ∙ c.if-is_disconnected.false) c.loop-h.invariant

pub returns : goal.returns
returns c = end_none _ _ _ (omega arith) c.loop-h.invariant
