use Rattle.analysis.proofs.Place.{place_zero, place_more, place_none, place_past}
use Rattle.analysis.proofs.sizes_below.Goals as goal

pub returns-then-x-eq0 : goal.returns-then-x-eq0
returns-then-x-eq0 c = place_none _ _ _ c.if-x-eq0.true

pub returns-then-n-gt32 : goal.returns-then-n-gt32
returns-then-n-gt32 c = place_past _ _ _ _ c.if-x-eq0.false c.if-n-gt32.true

pub loop-i-init : goal.loop-i-init
loop-i-init c = place_zero _ _

pub loop-i-preserved : goal.loop-i-preserved
loop-i-preserved c = place_more _ _ _ _ _ c.loop-i.invariant c.with_size-k.ensures
