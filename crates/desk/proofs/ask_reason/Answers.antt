use mathlib.Core.Path.{◌≡◌, refl, sym, ap, ap₂, subst, ◌∙◌}
use mir.Facts.{to_z-of_z}
use Rattle.graph_division.specs.Calls.{reason_fetched, last_fetched}
use Rattle.desk.specs.Obey.{reason_asked}
use Rattle.desk.proofs.Answering.{shown_fetched}
use borrow.Author.Rules.{rules}
use Rattle.desk.proofs.ask_reason.Goals as goal

pub returns : goal.returns
unfolding reason_asked
returns c =
    let a = c.args in
    shown_fetched _ _ a.out.now _ _ (c.calc_reason-a.ensures ∙ (λ i. reason_fetched a.s a.cursor a.log.now (to_z-of_z c.ranges.lit i) (c.no_list-list.ensures i))) c.print.ensures
