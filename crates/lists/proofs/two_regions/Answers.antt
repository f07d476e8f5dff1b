use Rattle.lists.specs.Parts.{two_regions}
use Rattle.lists.proofs.Steps.{then_past, then_stop}
use Rattle.lists.proofs.two_regions.Goals as goal

pub returns-in_err-n : goal.returns-in_err-n
unfolding two_regions
returns-in_err-n c = rw c.from_residual.ensures (then_stop _ _ _ _ c.decided.ensures c.in_err-n.was)

pub returns : goal.returns
unfolding two_regions
returns c = then_past _ _ _ _ _ _ c.decided.ensures c.in_ok-n.was c.decided-2.ensures
