use mathlib.Core.Path.{refl, sym, ap, ◌∙◌}
use native.Mathlib.Omega.{arith}
use Rattle.noting.proofs.Back.{standing_none, newest_none, newest_found, standing_on}
use Rattle.noting.specs.Standing.{newest}
use Rattle.noting.proofs.stands.newest.Goals as goal

pub loop-i-init : goal.loop-i-init
loop-i-init c = refl

pub returns-then-r-eq-LEVEL_BOUNDARY : goal.returns-then-r-eq-LEVEL_BOUNDARY
returns-then-r-eq-LEVEL_BOUNDARY c = newest_found c.args.log.now c.loop-i.i (omega arith) c.record_at-r.result c.record_at-r.ensures c.if-r-eq-LEVEL_BOUNDARY.true ∙ c.loop-i.invariant

pub loop-i-preserved : goal.loop-i-preserved
loop-i-preserved c = (ap newest (standing_on c.args.log.now c.loop-i.i (omega arith) c.record_at-r.result c.record_at-r.ensures c.if-r-eq-LEVEL_BOUNDARY.false) ∙ c.loop-i.invariant)

pub returns : goal.returns
returns c = sym (newest_none _ (standing_none c.args.log.now c.loop-i.i (omega arith))) ∙ c.loop-i.invariant
