use Prim.Native.Nat.{ℕ, ◌+◌, ◌-◌}
use lib.ListN.{set}
use native.Mathlib.Omega.{arith}
use mathlib.Core.Path.{◌≡◌, refl, sym, ap, ◌∙◌}
use Rattle.analysis.proofs.Walls.{low, marks_none, marks_same, marks_more, marks_done}
use Rattle.analysis.proofs.step1.lowest_walls.Goals as goal

pub loop-h-init : goal.loop-h-init
loop-h-init c = marks_none _ _ _ c.requires.1

pub bounds-walls-pair_place : goal.bounds-walls-pair_place
bounds-walls-pair_place c = low _ _ _ c.pair_place.ensures

pub bounds-walls-pair_place-then-is_disconnected : goal.bounds-walls-pair_place-then-is_disconnected
bounds-walls-pair_place-then-is_disconnected c = low _ _ _ c.pair_place-then-is_disconnected.ensures

pub loop-h-preserved-then-is_disconnected : goal.loop-h-preserved-then-is_disconnected
loop-h-preserved-then-is_disconnected c =
    let z : c.loop-h.h - 1 + 1 ≡ c.loop-h.h = omega arith in
    marks_more _ _ _ _ _ _ _ _ _ c.loop-h.invariant (omega arith) (omega arith) refl c.left_region-a.ensures c.right_region-b.ensures c.pair_place.ensures c.pair_place-then-is_disconnected.ensures _
    (ap (λ (k : ℕ). set (set c.loop-h.walls c.pair_place.result k) c.pair_place-then-is_disconnected.result k) z)

pub loop-h-preserved : goal.loop-h-preserved
loop-h-preserved c = marks_same _ _ _ _ _ _ c.loop-h.invariant refl (sym c.is_disconnected.ensures ∙ c.if-is_disconnected.false) refl

pub returns : goal.returns
returns c = marks_done _ _ _ _ c.loop-h.invariant (omega arith)
