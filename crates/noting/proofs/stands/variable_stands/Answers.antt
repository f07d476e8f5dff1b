use Rattle.std.proofs.Common.{◌∙◌, arith}
use borrow.Author.Tests.{eq-eqb}
use Rattle.noting.proofs.Forwards.{past_found, past_on}
use Rattle.noting.proofs.stands.variable_stands.Goals as goal

pub returns-then-x-eq0 : goal.returns-then-x-eq0
returns-then-x-eq0 c = eq-eqb _ _ c.if-x-eq0.true ∙ past_found c.args.log.now c.args.x c.args.used (omega arith) c.if-x-eq0.true

pub returns-else-x-eq0 : goal.returns-else-x-eq0
returns-else-x-eq0 c = c.variable_in.ensures ∙ past_on c.args.log.now c.args.x c.if-x-eq0.false c.args.used (omega arith)
