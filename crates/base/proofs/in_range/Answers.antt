use Rattle.base.proofs.Range.{out, in_order}
use Rattle.base.proofs.in_range.Goals as goal

pub returns-then-n-ge0 : goal.returns-then-n-ge0
returns-then-n-ge0 c = in_order c.args.most c.args.n c.ranges.n c.ranges.most c.if-n-ge0.true

pub returns-else-n-ge0 : goal.returns-else-n-ge0
returns-else-n-ge0 c = out c.args.most c.args.n c.ranges.n c.ranges.most c.if-n-ge0.false
