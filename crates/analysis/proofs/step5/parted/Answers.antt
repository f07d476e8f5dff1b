use Rattle.views.specs.Words.{lower_bound_of}
use mathlib.Core.Path.{refl, sym, ap, ◌∙◌}
use Rattle.division.specs.Plan.{touches, across}
use Rattle.division.specs.Analysis.{same_size, forks, loose}
use Rattle.reasons.specs.Verdicts.{Going, ran}
use Rattle.reasons.specs.Words.{put}
use Rattle.analysis.proofs.Forks.{parted_not, parted_zero, parted_some, same_first, same_second}
use Rattle.analysis.proofs.step5.parted.Goals as goal

pub returns-then-region_lower_bound-eq0 : goal.returns-then-region_lower_bound-eq0
unfolding across touches loose forks same_size
returns-then-region_lower_bound-eq0 c = parted_zero _ _ _ _ _ _ _ (sym c.same_size.ensures ∙ c.if-same_size.true) (sym (ap (lower_bound_of c.args.view.now) c.region_across-a.ensures) ∙ (sym c.region_lower_bound.ensures ∙ c.if-region_lower_bound-eq0.true))

pub returns-else-region_lower_bound-eq0 : goal.returns-else-region_lower_bound-eq0
unfolding across touches loose forks same_size
returns-else-region_lower_bound-eq0 c =
    ap (ran Going) (c.put-then-same_size.ensures ∙ ap (put c.edge_place-then-same_size.result c.packed-first.result c.region_lits-second.result) c.put.ensures)
    ∙ parted_some _ _ _ _ _ _ _ _ _ _ _ (sym c.same_size.ensures ∙ c.if-same_size.true)
    (λ e. c.if-region_lower_bound-eq0.false (c.region_lower_bound.ensures ∙ (ap (lower_bound_of c.args.view.now) c.region_across-a.ensures ∙ e))) c.edge_place.ensures c.edge_place-then-same_size.ensures
    (same_first _ _ _ _ _ _ _ _ _ c.across.ensures c.across-then-same_size.ensures c.packed-first.ensures)
    (same_second _ _ _ _ _ _ _ _ _ _ _ _ _ c.region_across-a.ensures c.region_across.ensures refl refl refl refl c.region_lits-second.ensures)

pub returns-else-same_size : goal.returns-else-same_size
unfolding across touches loose forks same_size
returns-else-same_size c = parted_not _ _ _ _ _ _ _ (sym c.same_size.ensures ∙ c.if-same_size.false)
