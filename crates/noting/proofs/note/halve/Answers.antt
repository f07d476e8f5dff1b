use Rattle.noting.proofs.Place.{halve_up, halve_down, halve_done}
use Rattle.plan.specs.Words.{words_of}
use Rattle.noting.proofs.note.halve.Goals as goal

pub returns-then-variable_at-x : goal.returns-then-variable_at-x
returns-then-variable_at-x c = halve_up (words_of c.args.plan.now) c.args.x 0 c.args.p c.variable_at.result c.variable_at.ensures c.if-p.true c.if-variable_at-x.true

pub returns-then-p : goal.returns-then-p
returns-then-p c = halve_down (words_of c.args.plan.now) c.args.x 0 c.args.p c.variable_at.result c.variable_at.ensures c.if-p.true c.if-variable_at-x.false

pub returns : goal.returns
returns c = halve_done (words_of c.args.plan.now) c.args.x 0 c.args.p c.if-p.false
