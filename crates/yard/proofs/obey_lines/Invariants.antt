use Rattle.std.proofs.Common.{◌≡◌, ◌-◌, ◌≤◌, length}
use Rattle.desk.specs.Obey.{desk}
use Rattle.desk.proofs.Speaking.{Left}
use Rattle.yard.proofs.obey_lines.Given as goal

abbrev pub invariant-loop-at : goal.invariant-loop-at
invariant-loop-at g l = (length l.input ≤ 1048577) × (length l.table ≡ 4096) × (length l.log ≡ 4352) × (length l.out ≡ 65536) × Left l.input l.shown.told l.at (desk l.o.state l.o.cursor l.table l.log)

abbrev pub decreases-loop-at : goal.decreases-loop-at
decreases-loop-at g l = length l.input - l.at
