use mathlib.Core.Path.{refl, sym, ap, ◌∙◌}
use mathlib.Core.Bool.{Bool, false}
use Prim.Native.Nat.{◌+◌, ◌≤◌}
use native.Mathlib.Omega.{arith}
use lib.ListN.{length, drop}
use borrow.Author.Tests.{le-leb, lt-leb}
use Rattle.base.proofs.Loop.{pick_yes, pick_no}
use Rattle.text.specs.Fields.{newline, lines_of}
use Rattle.text.specs.Input.{in_order, well_formed}
use Rattle.text.proofs.Cut.{upto_in}
use Rattle.text.proofs.Order.{refused_line, admitted_line, no_line}
use Rattle.text.proofs.input.well_formed.Goals as goal
use Rattle.text.proofs.input.well_formed.Goals.{After-line_end-e}

pub returns-then-input-gt1048576 : goal.returns-then-input-gt1048576
unfolding well_formed
returns-then-input-gt1048576 c = sym (pick_no _ _ (lt-leb _ _ c.if-input-gt1048576.true))

pub loop-at-init : goal.loop-at-init
loop-at-init c = refl

-- the line ends within the input
inside : (c : After-line_end-e) → c.line_end-e.result ≤ length c.args.input.now
inside c =
    let l = c.args.input.now in
    let i = c.loop-at.at in
    omega (arith, c.line_end-e.ensures, upto_in newline l i (omega arith))

pub slice_bounds-read_line-count : goal.slice_bounds-read_line-count
slice_bounds-read_line-count c = omega (arith, c.line_end-e.ensures)

pub slice_bounds-read_line-start : goal.slice_bounds-read_line-start
slice_bounds-read_line-start c = omega (arith, c.line_end-e.ensures, inside (goal.at.slice_bounds-read_line-start c).After-line_end-e)

pub slice_bounds-read_line-end : goal.slice_bounds-read_line-end
slice_bounds-read_line-end c = omega (arith, c.line_end-e.ensures, inside (goal.at.slice_bounds-read_line-end c).After-line_end-e)

pub returns-then-not-is_admitted : goal.returns-then-not-is_admitted
unfolding well_formed
returns-then-not-is_admitted c =
    let l = c.loop-at in
    let e = c.line_end-e in
    let t = c.read_line-line in
    let input = c.args.input.now in
    sym (refused_line input l.at e.result t.result l.first l.called (omega arith) e.ensures t.ensures (sym c.is_admitted.ensures ∙ c.if-not-is_admitted.true))
    ∙ l.invariant
    ∙ sym (pick_yes _ _ (le-leb _ _ c.if-input-gt1048576.false))

pub overflow_add-at : goal.overflow_add-at
overflow_add-at c = omega (arith, inside (goal.at.overflow_add-at c).After-line_end-e)

pub loop-at-smaller : goal.loop-at-smaller
loop-at-smaller c = omega (arith, c.line_end-e.ensures)

pub loop-at-preserved : goal.loop-at-preserved
loop-at-preserved c =
    let l = c.loop-at in
    let e = c.line_end-e in
    let t = c.read_line-line in
    let input = c.args.input.now in
    ap (λ (b : Bool). in_order false b (lines_of (drop (e.result + 1) input))) c.called_by-called.ensures
    ∙ sym (admitted_line input l.at e.result t.result l.first l.called (omega arith) e.ensures t.ensures (sym c.is_admitted.ensures ∙ c.if-not-is_admitted.false))
    ∙ l.invariant

pub returns : goal.returns
unfolding well_formed
returns c =
    let l = c.loop-at in
    let input = c.args.input.now in
    sym (no_line input l.at l.first l.called c.loop-at-test.false)
    ∙ l.invariant
    ∙ sym (pick_yes _ _ (le-leb _ _ c.if-input-gt1048576.false))
