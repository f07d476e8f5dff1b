use mathlib.Core.Path.{◌≡◌, refl, sym, ap, ap₂, ◌∙◌}
use Rattle.text.specs.declared.Line.{Line}
use Rattle.plan_lines.specs.Lines.{taken, drafted}
use borrow.Author.Rules.{rules}
use Rattle.plan_lines.proofs.take_line.Goals as goal

pub returns : goal.returns
returns c = c.take.ensures ∙ ap (λ (r : Line). taken c.args.line.now r (drafted c.args.c c.args.vertices.now c.args.edges.now)) c.read_line-read.ensures
