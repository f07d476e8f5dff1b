use Rattle.std.proofs.Common.{arith, sym, ap, length}
use borrow.Author.Tests.{le-leb, lt-leb}
use Rattle.text_writer.specs.Written.{tabbed}
use Rattle.text_writer.proofs.Putting.{tabbed_next_long, tabbed_end}
use Rattle.text_writer.proofs.has_room.Goals as goal

pub returns-then-left-k : goal.returns-then-left-k
returns-then-left-k c =
    let l = c.loop-n in
    let a = c.args in
    let k = tabbed_next_long a.numbers.now l.n-index c.loop-n-test.true in
    sym (lt-leb (length (tabbed a.numbers.now)) a.room (omega (arith, l.invariant, c.count_digits-k.ensures)))

pub loop-n-preserved : goal.loop-n-preserved
loop-n-preserved c =
    let l = c.loop-n in
    let k = tabbed_next_long c.args.numbers.now l.n-index c.loop-n-test.true in
    omega (arith, l.invariant, c.count_digits-k.ensures)

pub returns : goal.returns
returns c =
    let l = c.loop-n in
    let a = c.args in
    let e = tabbed_end a.numbers.now l.n-index c.loop-n-test.false in
    sym (le-leb (length (tabbed a.numbers.now)) a.room (omega (arith, l.invariant, ap length e)))
