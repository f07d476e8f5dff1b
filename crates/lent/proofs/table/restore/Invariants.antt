use mathlib.Core.Path.{◌≡◌}
use lib.ListN.{get_or}
use Rattle.base.specs.Lists.{filled}
use Rattle.lent.proofs.table.restore.Given as goal

abbrev pub invariant-loop-i : goal.invariant-loop-i
invariant-loop-i l = l.table ≡ filled 0 l.i (λ j. get_or l.saved j 0) l.initial.table
