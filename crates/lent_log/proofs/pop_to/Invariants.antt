use Rattle.std.proofs.Common.{◌≡◌, ◌-◌, ◌≤◌}
use Rattle.base.specs.Iter.{iter}
use Rattle.lent_log.specs.Records.{pop_record}
use Rattle.lent_log.proofs.pop_to.Given as goal

-- The first part holds too where the cursor begins below `to`, and no record is popped.
abbrev pub invariant-loop : goal.invariant-loop
invariant-loop l =
    (l.counter - l.to ≤ l.fn.cursor.used - l.to)
    × (l.cursor ≡ iter (λ _ d. (pop_record l.log d).cursor) (l.counter - l.to) l.fn.cursor)
