use Rattle.lists.specs.Parts.{three_regions}
use Rattle.lists.proofs.Steps.{then_past, then_stop}
use Rattle.lists.proofs.three_regions.Goals as goal

pub returns-in_err-n : goal.returns-in_err-n
unfolding three_regions
returns-in_err-n c = rw c.from_residual.ensures (then_stop _ _ _ _ c.two_regions.ensures c.in_err-n.was)

pub returns : goal.returns
unfolding three_regions
returns c = then_past _ _ _ _ _ _ c.two_regions.ensures c.in_ok-n.was c.decided.ensures
