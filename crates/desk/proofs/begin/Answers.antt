use mathlib.Core.Path.{◌≡◌, refl, sym, ap, ap₂, subst, ◌∙◌}
use Rattle.desk.proofs.Answering.{begin_turn}
use borrow.Author.Rules.{rules}
use Rattle.desk.proofs.begin.Goals as goal

pub returns : goal.returns
returns c =
    let a = c.args in
    begin_turn a.s a.cursor a.table.now a.log.now a.out.now _ _ _ _ _ _ _ refl c.initialize-o.ensures c.print.ensures
