use Rattle.std.proofs.Common.{◌≡◌, ◌+◌, ◌-◌, ◌≤◌, get_or}
use Rattle.base.specs.Iter.{iter}
use Rattle.undo_log.specs.Log.{record_of}
use Rattle.lent_log.specs.Records.{lent, pushed_on}
use Rattle.lent_log.proofs.push_run.Given as goal

-- The first part holds too where the cursor begins past `to`, and no record is pushed.
abbrev pub invariant-loop-i : goal.invariant-loop-i
invariant-loop-i l =
    (l.i - l.fn.cursor.used ≤ l.to - l.fn.cursor.used)
    × (lent l.log l.cursor ≡ iter (λ i y. pushed_on (record_of (get_or l.words (l.fn.cursor.used + i) 0)) y) (l.i - l.fn.cursor.used) (lent l.fn.log l.fn.cursor))
