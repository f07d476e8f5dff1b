use mathlib.Core.Path.{◌≡◌, refl, sym, ap, ap₂, subst, ◌∙◌}
use mir.Facts.{to_z-of_z}
use Rattle.graph_division.specs.Calls.{reason_fetched, last_fetched}
use Rattle.desk.specs.Obey.{last_asked}
use Rattle.desk.proofs.Answering.{shown_fetched}
use borrow.Author.Rules.{rules}
use Rattle.desk.proofs.ask_last.Goals as goal

pub returns : goal.returns
unfolding last_asked
returns c =
    let a = c.args in
    shown_fetched _ _ a.out.now _ _ (c.calc_last-a.ensures ∙ ap (last_fetched a.s a.cursor a.log.now) c.no_list-list.ensures) c.print.ensures
