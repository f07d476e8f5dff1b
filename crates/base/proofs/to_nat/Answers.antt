use Rattle.base.proofs.Range.{nat_zero, nat_is}
use Rattle.base.proofs.to_nat.Goals as goal

pub returns-then-n-lt0 : goal.returns-then-n-lt0
returns-then-n-lt0 c = nat_zero c.args.n c.ranges.n c.if-n-lt0.true

pub returns-else-n-lt0 : goal.returns-else-n-lt0
returns-else-n-lt0 c = nat_is c.args.n c.ranges.n c.if-n-lt0.false
