use Rattle.std.proofs.Common.{sym, arith, rules, ◌-◌, ◌<◌, length}
use Rattle.base.proofs.Loop.{pick_yes, pick_no}
use Rattle.lent_log.specs.Records.{pop_record}
use Rattle.lent_log.proofs.Bounds.{newest_there}
use Rattle.lent_log.proofs.pop.Goals as goal

pub overflow_sub-at : goal.overflow_sub-at
overflow_sub-at c = omega (arith, newest_there _ _ (sym c.if-has_newest.ensures))

pub offset_bounds-log-at : goal.offset_bounds-log-at
offset_bounds-log-at c =
    let h : c.args.cursor.now.used - 1 < length c.args.log.now = omega (arith, newest_there _ _ (sym c.if-has_newest.ensures)) in
    search rules

pub bounds-log-at : goal.bounds-log-at
bounds-log-at c = omega (arith, newest_there _ _ (sym c.if-has_newest.ensures))

pub returns-then-has_newest : goal.returns-then-has_newest
unfolding pop_record
returns-then-has_newest c = sym (pick_yes _ _ (sym c.if-has_newest.ensures))

pub returns : goal.returns
unfolding pop_record
returns c = sym (pick_no _ _ (sym c.if-has_newest.ensures))
