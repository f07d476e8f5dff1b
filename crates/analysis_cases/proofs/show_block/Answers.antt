use Rattle.std.proofs.Common.{◌≤◌, arith, length}
use Rattle.text.specs.Fields.{newline}
use Rattle.text.proofs.Cut.{upto_in}
use Rattle.analysis_cases.proofs.show_block.Given.{Over}
use Rattle.analysis_cases.proofs.show_block.Goals as goal
use Rattle.analysis_cases.proofs.show_block.Goals.{After-line_end-e}

-- the line ends within the input
inside : (g : Over) (c : After-line_end-e g) → c.line_end-e.result ≤ length c.args.input.now
inside g c =
    let l = c.args.input.now in
    let i = c.loop-at.at in
    omega (arith, c.line_end-e.ensures, upto_in newline l i (omega arith))

pub slice_bounds-line-end : goal.slice_bounds-line-end
slice_bounds-line-end g c = omega (arith, c.line_end-e.ensures, inside g (goal.at.slice_bounds-line-end g c).After-line_end-e)

pub overflow_add-at : goal.overflow_add-at
overflow_add-at g c = omega (arith, inside g (goal.at.overflow_add-at g c).After-line_end-e)
