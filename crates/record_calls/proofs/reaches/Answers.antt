use mathlib.Core.Path.{◌≡◌, refl, ap, ◌∙◌}
use mathlib.Core.Bool.{Bool, not, ◌&&◌}
use mathlib.Core.List.{List}
use Prim.Native.Nat.{ℕ}
use lib.Dec.{leb}
use Rattle.base.proofs.Tests.{and_no, and_next}
use Rattle.noting.specs.Buffers.{log_short}
use Rattle.record_calls.proofs.Reached.{reaches_by}
use Rattle.record_calls.proofs.reaches.Goals as goal
use Rattle.record_calls.proofs.reaches.Goals.{then-check, else-check, then-not-log_short, else-not-log_short}

pub returns-then-cursor-len : goal.returns-then-cursor-len
returns-then-cursor-len c =
    let n = c.args.len in
    let x : c.if-check.value ≡ (c.check.result && not (log_short c.args.s.plan n)) = elim c.if-check.branch [
      | then-check w ↦ and_next _ _ w.if-check.true (w.value-is ∙ ap not (w.log_short.ensures ∙ ap (λ (ws : List ℕ). log_short ws n) w.plan_bytes.ensures))
      | else-check w ↦ w.value-is ∙ (w.if-check.false ∙ and_no _ w.if-check.false)
    ] in
    let y : c.if-not-log_short.value ≡ (c.if-check.value && leb c.args.cursor.used n) = elim c.if-not-log_short.branch [
      | then-not-log_short w ↦ and_next _ _ w.if-not-log_short.true w.value-is
      | else-not-log_short w ↦ w.value-is ∙ (w.if-not-log_short.false ∙ and_no _ w.if-not-log_short.false)
    ] in
    reaches_by c.args.s.plan c.args.s.edges.ends c.args.s.noted c.args.cursor n _ _ _ (x ∙ ap (λ (t : Bool). t && not (log_short c.args.s.plan n)) c.check.ensures) y (and_next _ _ c.if-cursor-len.true refl)

pub returns-else-cursor-len : goal.returns-else-cursor-len
returns-else-cursor-len c =
    let n = c.args.len in
    let x : c.if-check.value ≡ (c.check.result && not (log_short c.args.s.plan n)) = elim c.if-check.branch [
      | then-check w ↦ and_next _ _ w.if-check.true (w.value-is ∙ ap not (w.log_short.ensures ∙ ap (λ (ws : List ℕ). log_short ws n) w.plan_bytes.ensures))
      | else-check w ↦ w.value-is ∙ (w.if-check.false ∙ and_no _ w.if-check.false)
    ] in
    let y : c.if-not-log_short.value ≡ (c.if-check.value && leb c.args.cursor.used n) = elim c.if-not-log_short.branch [
      | then-not-log_short w ↦ and_next _ _ w.if-not-log_short.true w.value-is
      | else-not-log_short w ↦ w.value-is ∙ (w.if-not-log_short.false ∙ and_no _ w.if-not-log_short.false)
    ] in
    reaches_by c.args.s.plan c.args.s.edges.ends c.args.s.noted c.args.cursor n _ _ _ (x ∙ ap (λ (t : Bool). t && not (log_short c.args.s.plan n)) c.check.ensures) y (c.if-cursor-len.false ∙ and_no _ c.if-cursor-len.false)
