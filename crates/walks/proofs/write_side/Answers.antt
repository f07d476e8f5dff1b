use borrow.Author.Tests.{eq-eqb, ne_eqb}
use Rattle.walks.proofs.Walk.{written_yes, written_no}
use Rattle.walks.specs.Walk.{side_at}
use Rattle.walks.proofs.write_side.Goals as goal

pub returns-then-scan-p-eq1 : goal.returns-then-scan-p-eq1
unfolding side_at
returns-then-scan-p-eq1 c = written_yes _ _ _ _ (eq-eqb _ _ c.if-scan-p-eq1.true) c.write_walls.ensures

pub returns : goal.returns
unfolding side_at
returns c = written_no _ _ _ (ne_eqb _ _ c.if-scan-p-eq1.false)
