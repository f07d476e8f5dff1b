use mathlib.Core.Path.{ap}
use native.Mathlib.Omega.{arith}
use Rattle.noting.proofs.Steps.{one_more_lem, no_more}
use lib.ListN.{length}
use Rattle.noting.proofs.Pushing.{push_length}
use Rattle.noting.proofs.note.push_level.Goals as goal

pub returns-then-c-log : goal.returns-then-c-log
returns-then-c-log c = (one_more_lem _ _ _ c.push-c.ensures.0 (omega (arith, ap length c.push-c.ensures.1, push_length c.args.log.now c.args.cursor (record { kind = 0; index = 0; bound = 0; lit = c.args.lit }))), c.push-c.ensures.1)

pub returns : goal.returns
returns c = (no_more _ _ _ c.push-c.ensures.0 (omega (arith, ap length c.push-c.ensures.1, push_length c.args.log.now c.args.cursor (record { kind = 0; index = 0; bound = 0; lit = c.args.lit }))), c.push-c.ensures.1)
