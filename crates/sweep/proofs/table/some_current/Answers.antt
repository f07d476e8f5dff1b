use Rattle.std.proofs.Common.{arith, sym, ◌∙◌, ◌≤◌, ◌<◌}
use mathlib.Core.Logic.{⊎_elim}
use Rattle.base.proofs.Tests.{le_or_lt}
use Rattle.sweep.proofs.Loops.{part_end, part_out, part_yes, part_no}
use Rattle.sweep.proofs.table.some_current.Goals as goal

pub returns-then-is_current : goal.returns-then-is_current
returns-then-is_current c = sym (c.loop-i.invariant ∙ part_yes c.args.table.now c.args.list.now c.args.to c.loop-i.i (omega arith) (omega arith) (rw c.from.ensures at (sym c.if-is_current.ensures)))

pub loop-i-preserved : goal.loop-i-preserved
loop-i-preserved c = c.loop-i.invariant ∙ part_no c.args.table.now c.args.list.now c.args.to c.loop-i.i (omega arith) (omega arith) (rw c.from.ensures at (sym c.if-is_current.ensures))

pub returns : goal.returns
returns c =
    let i = c.loop-i.i in
    sym (c.loop-i.invariant ∙ ⊎_elim
    (λ (h : c.args.to ≤ i). part_end c.args.table.now c.args.list.now c.args.to i h)
    (λ (h : i < c.args.to). part_out c.args.table.now c.args.list.now c.args.to i (omega arith))
    (le_or_lt c.args.to i))
