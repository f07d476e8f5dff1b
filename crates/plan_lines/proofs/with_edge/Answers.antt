use mathlib.Core.Path.{◌≡◌, refl, sym, ap, ◌∙◌}
use Prim.Native.Nat.{ℕ}
use Rattle.plan_lines.specs.Lines.{counts}
use borrow.Author.Rules.{rules}
use Rattle.plan_lines.proofs.with_edge.Goals as goal

pub returns : goal.returns
returns c = let x = c.args.c in ap (λ (n : ℕ). counts x.vertices n x.same_size x.extra_walls) c.one_more.ensures
