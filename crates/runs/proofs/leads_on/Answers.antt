use Rattle.runs.proofs.Next.{onward_a, onward_b, onward_apart, onward_shut}
use Rattle.runs.proofs.leads_on.Goals as goal

pub returns-then-a-p : goal.returns-then-a-p
returns-then-a-p c =
    onward_a _ _ _ _ _ _ _ c.from-a.ensures c.from-b.ensures c.passable.ensures _
    c.if-passable.true c.if-a-p.true c.is_next.ensures

pub returns-then-b-p : goal.returns-then-b-p
returns-then-b-p c =
    onward_b _ _ _ _ _ _ _ c.from-a.ensures c.from-b.ensures c.passable.ensures _
    c.if-passable.true c.if-a-p.false c.if-b-p.true c.is_next-then-b-p.ensures

pub returns-else-b-p : goal.returns-else-b-p
returns-else-b-p c =
    onward_apart _ _ _ _ _ _ _ c.from-a.ensures c.from-b.ensures c.passable.ensures
    c.if-passable.true c.if-a-p.false c.if-b-p.false

pub returns-else-passable : goal.returns-else-passable
returns-else-passable c = onward_shut _ _ _ _ _ c.passable.ensures c.if-passable.false
