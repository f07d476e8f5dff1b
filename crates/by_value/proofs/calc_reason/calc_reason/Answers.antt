use mir.Facts.{to_z-of_z}
use Rattle.by_value.proofs.Shell.{reason_shell}
use borrow.Author.Rules.{rules}
use Rattle.by_value.proofs.calc_reason.calc_reason.Goals as goal

pub returns : goal.returns
returns c =
    reason_shell c.args.s _ _ c.table_of-edges.ensures _ c.plan_bytes-plan.ensures _ _ _ _ _ _ _ _ (to_z-of_z c.ranges.lit) c.lit_number.ensures c.place_of-p.ensures c.reason_at-reason.ensures
    c.calc_reason.ensures
