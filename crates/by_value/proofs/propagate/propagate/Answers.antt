use mir.Facts.{to_z-of_z}
use Rattle.by_value.proofs.Shell.{propagate_shell}
use borrow.Author.Rules.{rules}
use Rattle.by_value.proofs.propagate.propagate.Goals as goal

pub returns : goal.returns
returns c =
    let f = c.ranges in
    propagate_shell c.args.s _ _ c.table_of-edges.ensures _ c.plan_bytes-plan.ensures _ _ c.no_words-proposals.ensures _ _ _ _ _ _ _ _ _ _ _ _ _ _ _ c.no_list-left.ensures (to_z-of_z f.lit) (to_z-of_z f.num_pending_propagations) c.state_after.ensures
    c.propagate-done.ensures
