use mathlib.Core.Path.{◌≡◌, refl, sym, ap, ap₂, subst, ◌∙◌}
use Rattle.desk.specs.Obey.{desk}
use Rattle.desk.proofs.Answering.{told_line}
use borrow.Author.Rules.{rules}
use Rattle.desk.proofs.obey.Goals as goal

pub returns : goal.returns
returns c =
    let a = c.args in
    told_line _ (desk a.s a.cursor a.table.now a.log.now) a.out.now _ _ (sym c.read_line.ensures) c.obey_read.ensures
