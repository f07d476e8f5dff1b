use Rattle.std.proofs.Common.{arith}
use Rattle.text.proofs.Cut.{ends_here, ends_later, ends_past}
use Rattle.text.proofs.end_at.Goals as goal

pub returns-then-bytes-i : goal.returns-then-bytes-i
returns-then-bytes-i c = omega (arith, ends_here c.args.separator c.args.bytes.now c.loop-i.i c.loop-i-test.true c.if-bytes-i.true)

pub loop-i-preserved : goal.loop-i-preserved
loop-i-preserved c = (omega arith, omega (arith, ends_later c.args.separator c.args.bytes.now c.loop-i.i c.loop-i-test.true c.if-bytes-i.false))

pub returns : goal.returns
returns c = omega (arith, ends_past c.args.separator c.args.bytes.now c.loop-i.i c.loop-i-test.false)
