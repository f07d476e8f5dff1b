use mathlib.Core.Path.{◌≡◌, refl, sym, ap, ap₂, ◌∙◌}
use native.Mathlib.Omega.{arith}
use borrow.Author.Tests.{lt-ltb, le-ltb, le-leb, lt-leb}
use Rattle.base.proofs.Loop.{pick_yes, pick_no}
use Rattle.plan_lines.specs.Lines.{one_more}
use borrow.Author.Rules.{rules}
use Rattle.plan_lines.proofs.one_more.Goals as goal

pub returns-then-n-lt1000000 : goal.returns-then-n-lt1000000
unfolding one_more
returns-then-n-lt1000000 c = sym (pick_yes _ _ (lt-ltb _ _ c.if-n-lt1000000.true))

pub returns : goal.returns
unfolding one_more
returns c = sym (pick_no _ _ (le-ltb _ _ c.if-n-lt1000000.false))
