use Rattle.std.proofs.Common.{◌≡◌, ◌-◌, take, drop}
use Rattle.calls.specs.Table.{some_current}
use Rattle.sweep.proofs.table.some_current.Given as goal

abbrev pub invariant-loop-i : goal.invariant-loop-i
invariant-loop-i l = some_current l.table (take (l.to - l.from) (drop l.from l.list)) ≡ some_current l.table (take (l.to - l.i) (drop l.i l.list))
