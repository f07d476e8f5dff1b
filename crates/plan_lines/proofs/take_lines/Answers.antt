use mathlib.Core.Path.{◌≡◌, refl, sym, ap, ap₂, ◌∙◌}
use native.Mathlib.Omega.{arith}
use Prim.Native.Nat.{ℕ, ◌+◌, ◌*◌, ◌-◌, ◌≤◌}
use lib.ListN.{length, drop}
use Rattle.text.specs.Fields.{newline, lines_of}
use Rattle.text.proofs.Cut.{upto_in}
use Rattle.plan_lines.specs.Lines.{drafted, counts, reading_of, reading, taken_lines}
use Rattle.plan_lines.proofs.Reading.{next_min, past, plan_line, other_line, no_line}
use borrow.Author.Rules.{rules}
use Rattle.plan_lines.proofs.take_lines.Goals as goal
use Rattle.plan_lines.proofs.take_lines.Goals.{After-line_end-e}

pub loop-at-init : goal.loop-at-init
unfolding taken_lines
loop-at-init c = refl

-- the line ends within the input
inside : (c : After-line_end-e) → c.line_end-e.result ≤ length c.args.input.now
inside c =
    let l = c.args.input.now in
    let i = c.loop-at.at in
    omega (arith, c.line_end-e.ensures, upto_in newline l i (omega arith))

pub slice_bounds-line-count : goal.slice_bounds-line-count
slice_bounds-line-count c = omega (arith, c.line_end-e.ensures)

pub slice_bounds-line-start : goal.slice_bounds-line-start
slice_bounds-line-start c = omega (arith, c.line_end-e.ensures, inside (goal.at.slice_bounds-line-start c).After-line_end-e)

pub slice_bounds-line-end : goal.slice_bounds-line-end
slice_bounds-line-end c = omega (arith, c.line_end-e.ensures, inside (goal.at.slice_bounds-line-end c).After-line_end-e)

pub loop-at-smaller : goal.loop-at-smaller
loop-at-smaller c = let p = past c.loop-at.at c.line_end-e.result (length c.args.input.now) (omega (arith, c.line_end-e.ensures)) (omega arith) in omega (arith, p, (next_min _ _ _ c.min-at.ensures))

pub loop-at-preserved : goal.loop-at-preserved
loop-at-preserved c =
    let l = c.loop-at in
    plan_line c.args.input.now l.at c.line_end-e.result c.read_line-read.result (drafted l.c l.vertices l.edges) (omega arith) c.line_end-e.ensures c.read_line-read.ensures _ _ (sym c.is_plan_line.ensures ∙ c.if-not-is_plan_line.false) c.take-c.ensures (next_min _ _ _ c.min-at.ensures)
    ∙ l.invariant

pub returns-then-not-is_plan_line : goal.returns-then-not-is_plan_line
returns-then-not-is_plan_line c =
    let l = c.loop-at in
    other_line c.args.input.now l.at c.line_end-e.result c.read_line-read.result (drafted l.c l.vertices l.edges) (omega arith) c.line_end-e.ensures c.read_line-read.ensures (sym c.is_plan_line.ensures ∙ c.if-not-is_plan_line.true)
    ∙ l.invariant

pub returns-after-loop-at : goal.returns-after-loop-at
returns-after-loop-at c = no_line c.args.input.now c.loop-at.at (drafted c.loop-at.c c.loop-at.vertices c.loop-at.edges) c.loop-at-test.false ∙ c.loop-at.invariant
