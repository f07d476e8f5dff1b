use mathlib.Core.Logic.{inl, inr}
use mathlib.Core.Path.{refl, ◌∙◌, ap, ap₂}
use Rattle.std.specs.Prelude.{Err}
use Rattle.walks.specs.Answers.{missing}
use Rattle.lists.specs.Parts.{and_word, and_lit}
use Rattle.lists.specs.Conflicts.{conflict_lits}
use Rattle.lists.proofs.Spans.{conflict_arm, spans_of}
use Rattle.lists.proofs.conflict.conflict_lits.Goals as goal

pub returns-in_default : goal.returns-in_default
unfolding conflict_lits missing
returns-in_default c = conflict_arm _ _ _ _ _ _ _ _ c.in_default.is refl

pub returns-in-DisconnectedInside : goal.returns-in-DisconnectedInside
unfolding conflict_lits
returns-in-DisconnectedInside c = conflict_arm _ _ _ _ _ _ _ _ (c.in-Err.is ∙ ap Err c.in-DisconnectedInside.is) (c.and_word.ensures ∙ ap₂ and_word c.edge_lit.ensures c.inside-r.ensures)

pub returns-in-Over : goal.returns-in-Over
unfolding conflict_lits
returns-in-Over c = conflict_arm _ _ _ _ _ _ _ _ (c.in-Err.is ∙ ap Err c.in-Over.is) (c.and_lit.ensures ∙ ap₂ and_lit c.upper_bound_lit.ensures c.decided-r.ensures)

pub returns-in-Under : goal.returns-in-Under
unfolding conflict_lits
returns-in-Under c = conflict_arm _ _ _ _ _ _ _ _ (c.in-Err.is ∙ ap Err c.in-Under.is) (c.and_lit-in-Under.ensures ∙ ap₂ and_lit c.lower_bound_lit.ensures c.potential-r.ensures)

pub returns-in-Crowded : goal.returns-in-Crowded
unfolding conflict_lits
returns-in-Crowded c = conflict_arm _ _ _ _ _ _ _ _ (c.in-Err.is ∙ ap Err c.in-Crowded.is) (spans_of _ _ _ _ _ c.potential-r-in-Crowded.ensures c.spans.ensures)

pub returns-in-Apart : goal.returns-in-Apart
unfolding conflict_lits
returns-in-Apart c = conflict_arm _ _ _ _ _ _ _ _ (c.in-Err.is ∙ ap Err c.in-Apart.is) c.apart.ensures

pub returns-in-Crossing : goal.returns-in-Crossing
unfolding conflict_lits
returns-in-Crossing c = conflict_arm _ _ _ _ _ _ _ _ (c.in-Err.is ∙ ap Err c.in-Crossing.is) c.crossing.ensures

pub returns-in-ZeroSize : goal.returns-in-ZeroSize
unfolding conflict_lits missing
returns-in-ZeroSize c = conflict_arm _ _ _ _ _ _ _ _ (c.in-Err.is ∙ ap Err c.in-ZeroSize.is) refl

pub returns-in-Unfit : goal.returns-in-Unfit
unfolding conflict_lits missing
returns-in-Unfit c = conflict_arm _ _ _ _ _ _ _ _ (c.in-Err.is ∙ ap Err c.in-Unfit.is) refl
