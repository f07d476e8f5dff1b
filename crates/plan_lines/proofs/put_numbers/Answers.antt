use mathlib.Core.Path.{◌≡◌, refl, sym, ap, ap₂, ◌∙◌}
use mathlib.Core.List.{List}
use lib.IntN.{ℤ}
use Rattle.plan_lines.specs.Lines.{numbers_put, row_put}
use borrow.Author.Rules.{rules}
use Rattle.plan_lines.proofs.put_numbers.Goals as goal

pub returns : goal.returns
unfolding numbers_put
returns c = c.put_row.ensures ∙ ap (λ (xs : List ℤ). row_put c.args.at xs c.args.vertices.now) c.numbers.ensures.1
