use mathlib.Core.Path.{refl, ap, ◌∙◌}
use Rattle.std.specs.Prelude.{Err}
use Rattle.judge.proofs.Steps.{found_arm, found_other}
use Rattle.judge.specs.Judge.{judge_found}
use Rattle.judge.proofs.judge_found.Goals as goal

pub returns-in_default : goal.returns-in_default
unfolding judge_found
returns-in_default c = found_arm _ _ _ _ _ _ _ _ _ c.in_default.is c.judge_proposals.ensures

pub returns-in-Crowded : goal.returns-in-Crowded
unfolding judge_found
returns-in-Crowded c = found_arm _ _ _ _ _ _ _ _ _ (c.in-Err.is ∙ ap Err c.in-Crowded.is) c.judge_crowded.ensures

pub returns-in-ZeroSize : goal.returns-in-ZeroSize
unfolding judge_found
returns-in-ZeroSize c = found_arm _ _ _ _ _ _ _ _ _ (c.in-Err.is ∙ ap Err c.in-ZeroSize.is) refl

pub returns-in-Unfit : goal.returns-in-Unfit
unfolding judge_found
returns-in-Unfit c = found_arm _ _ _ _ _ _ _ _ _ (c.in-Err.is ∙ ap Err c.in-Unfit.is) refl

pub returns-in_default-stop : goal.returns-in_default-stop
returns-in_default-stop c =
    let d = c.in_default-stop in
    found_arm _ _ _ _ _ _ _ _ _ c.in-Err.is (c.judge_conflict.ensures ∙ found_other _ _ _ _ _ _ _ d.not-Crowded d.not-ZeroSize d.not-Unfit)
