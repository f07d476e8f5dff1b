use Rattle.lent.proofs.Saved.{saved_tab}
use Rattle.lent.proofs.table.save.Goals as goal

pub returns : goal.returns
returns c = saved_tab _ _ c.min-n.ensures _ c.copy_from_slice.ensures.after
