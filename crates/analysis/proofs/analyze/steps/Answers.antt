use Rattle.noting.specs.Words.{state_of}
use Rattle.analysis.specs.Placed.{words, plan_in, view_in}
use mathlib.Core.List.{[]}
use Rattle.division.specs.Views.{cells_of}
use Rattle.division.specs.Analysis.{step3, cuts, crowds}
use Rattle.analysis.proofs.Pass.{ran_left}
use Rattle.analysis.proofs.Chain.{ran_next, step2_regular, step3_regular, step4_regular, ends_1, ends_2, ends_3, ends_4, ends_5}
use Rattle.plan.specs.Words.{words_of}
use Rattle.analysis.proofs.analyze.steps.Goals as goal

pub returns-in_err-step1 : goal.returns-in_err-step1
unfolding step3 cuts crowds cells_of
returns-in_err-step1 c = ran_left _ _ _ _ _ c.from_residual.ensures.1 (ends_1 _ _ _ _ _ [] _ c.in_err-step1.ensures)

pub returns-in_err-step2 : goal.returns-in_err-step2
unfolding step3 cuts crowds cells_of
returns-in_err-step2 c = ran_left _ _ _ _ _ c.from_residual-in_err-step2.ensures.1 (ends_2 _ _ _ _ _ [] _ (ran_next _ (step2_regular _ _ _ _) _ _ _ _ _ c.in_ok-step1.ensures c.in_err-step2.ensures))

pub returns-in_err-step3 : goal.returns-in_err-step3
unfolding step3 cuts crowds cells_of
returns-in_err-step3 c = ran_left _ _ _ _ _ c.from_residual-in_err-step3.ensures.1 (ends_3 _ _ _ _ _ [] _ (ran_next _ (step3_regular (plan_in (words (words_of c.args.plan.now) c.args.edges c.args.noted.now c.args.view.now)) (state_of c.args.noted.now) (view_in (words (words_of c.args.plan.now) c.args.edges c.args.noted.now c.args.view.now))) _ _ _ _ _ (ran_next _ (step2_regular _ _ _ _) _ _ _ _ _ c.in_ok-step1.ensures c.in_ok-step2.ensures) c.in_err-step3.ensures))

pub returns-in_err-step4 : goal.returns-in_err-step4
unfolding step3 cuts crowds cells_of
returns-in_err-step4 c = ran_left _ _ _ _ _ c.from_residual-in_err-step4.ensures.1 (ends_4 _ _ _ _ _ [] _ (ran_next _ (step4_regular _ _ _) _ _ _ _ _ (ran_next _ (step3_regular (plan_in (words (words_of c.args.plan.now) c.args.edges c.args.noted.now c.args.view.now)) (state_of c.args.noted.now) (view_in (words (words_of c.args.plan.now) c.args.edges c.args.noted.now c.args.view.now))) _ _ _ _ _ (ran_next _ (step2_regular _ _ _ _) _ _ _ _ _ c.in_ok-step1.ensures c.in_ok-step2.ensures) c.in_ok-step3.ensures) c.in_err-step4.ensures))

pub returns : goal.returns
unfolding step3 cuts crowds cells_of
returns c = ends_5 _ _ _ _ _ _ _ (ran_next _ (step4_regular _ _ _) _ _ _ _ _ (ran_next _ (step3_regular (plan_in (words (words_of c.args.plan.now) c.args.edges c.args.noted.now c.args.view.now)) (state_of c.args.noted.now) (view_in (words (words_of c.args.plan.now) c.args.edges c.args.noted.now c.args.view.now))) _ _ _ _ _ (ran_next _ (step2_regular _ _ _ _) _ _ _ _ _ c.in_ok-step1.ensures c.in_ok-step2.ensures) c.in_ok-step3.ensures) c.in_ok-step4.ensures) c.step5.ensures
