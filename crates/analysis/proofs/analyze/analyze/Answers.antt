use mathlib.Core.Path.{sym, ap, ◌∙◌}
use Rattle.base.proofs.Loop.{pick_yes, pick_no}
use Rattle.views.specs.Compute.{Computed}
use Rattle.analysis.specs.Analyze.{analyze_by, analyze_words}
use Rattle.analysis.proofs.Pass.{ran_length}
use Rattle.analysis.proofs.Analyzing.{fit}
use Rattle.plan.specs.Words.{words_of}
use Rattle.analysis.proofs.analyze.analyze.Goals as goal

pub steps-requires : goal.steps-requires
steps-requires c = fit _ _ _ _ (ap (λ (z : Computed). z.done) (sym c.compute_view.ensures) ∙ c.if-compute_view.true)

pub shape_of-proposals-then-compute_view : goal.shape_of-proposals-then-compute_view
shape_of-proposals-then-compute_view c = ran_length _ _ _ _ c.steps.ensures

pub returns-then-compute_view : goal.returns-then-compute_view
unfolding analyze_words analyze_by
returns-then-compute_view c = c.steps.ensures ∙ (sym (pick_yes _ _ c.if-compute_view.true) ∙ ap (analyze_by (words_of c.args.plan.now) c.args.edges c.args.noted.now c.args.crossed c.args.proposals.now) c.compute_view.ensures)

pub returns : goal.returns
unfolding analyze_words analyze_by
returns c = sym (pick_no _ _ c.if-compute_view.false) ∙ ap (analyze_by (words_of c.args.plan.now) c.args.edges c.args.noted.now c.args.crossed c.args.proposals.now) c.compute_view.ensures
