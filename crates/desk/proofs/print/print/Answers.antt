use mathlib.Core.Logic.{⊎_elim}
use mathlib.Core.Path.{◌≡◌, refl, sym, ap, ap₂, subst, ◌∙◌}
use Rattle.graph_division.specs.Answers.{values_of}
use Rattle.desk.specs.Print.{letter_of, numbers_in, line_of}
use Rattle.desk.proofs.Answering.{shown_as}
use borrow.Author.Rules.{rules}
use Rattle.desk.proofs.print.print.Goals as goal

pub returns-in-Consistent : goal.returns-in-Consistent
unfolding line_of letter_of numbers_in values_of
returns-in-Consistent c = shown_as c.args.values.now _ _ c.args.out.now _ _ c.in-Consistent.is c.print_first.ensures

pub returns-in-Conflict : goal.returns-in-Conflict
unfolding line_of letter_of numbers_in values_of
returns-in-Conflict c = shown_as c.args.values.now _ _ c.args.out.now _ _ c.in-Conflict.is c.print_first-in-Conflict.ensures

pub returns-in-Noted : goal.returns-in-Noted
unfolding line_of letter_of numbers_in values_of
returns-in-Noted c = shown_as c.args.values.now _ _ c.args.out.now _ _ c.in-Noted.is c.print_first-in-Noted.ensures

pub returns-in-Undone : goal.returns-in-Undone
unfolding line_of letter_of numbers_in values_of
returns-in-Undone c = shown_as c.args.values.now _ _ c.args.out.now _ _ c.in-Undone.is c.print_first-in-Undone.ensures

pub returns-in-Reason : goal.returns-in-Reason
unfolding line_of letter_of numbers_in values_of
returns-in-Reason c =
    let shown = c.print_first-in-Reason.ensures in
    ⊎_elim (λ e. shown_as c.args.values.now _ _ c.args.out.now _ _ e shown)
    (⊎_elim (λ e. shown_as c.args.values.now _ _ c.args.out.now _ _ e shown) (λ e. shown_as c.args.values.now _ _ c.args.out.now _ _ e shown)) c.in-Reason.is

pub returns-in-Refused : goal.returns-in-Refused
unfolding line_of letter_of numbers_in values_of
returns-in-Refused c = shown_as c.args.values.now _ _ c.args.out.now _ _ c.in-Refused.is c.print_refusal.ensures
