use mathlib.Core.Path.{sym, ◌∙◌}
use native.Mathlib.Omega.{arith}
use Rattle.division.specs.Views.{members_of}
use Rattle.analysis.proofs.Meeting.{found_lower, found_upper, meets_other, meets_met, meets_apart}
use Rattle.plan.specs.Words.{words_of}
use Rattle.analysis.proofs.step4.meets.Goals as goal

pub returns-then-upper_bound-lower_bound : goal.returns-then-upper_bound-lower_bound
unfolding members_of
returns-then-upper_bound-lower_bound c = λ a. meets_apart _ _ _ _ a _ _ (sym c.decided_region.ensures ∙ c.if-decided_region-r.true) (found_lower (words_of c.args.plan.now) c.args.edges c.args.noted.now c.args.r _ c.extreme_vertices-found.ensures (c.requires.1) (c.requires.0)) (found_upper (words_of c.args.plan.now) c.args.edges c.args.noted.now c.args.r _ c.extreme_vertices-found.ensures (c.requires.1) (c.requires.0)) (omega arith)

pub returns-else-upper_bound-lower_bound : goal.returns-else-upper_bound-lower_bound
unfolding members_of
returns-else-upper_bound-lower_bound c = λ a. meets_met _ _ _ _ a _ _ (sym c.decided_region.ensures ∙ c.if-decided_region-r.true) (found_lower (words_of c.args.plan.now) c.args.edges c.args.noted.now c.args.r _ c.extreme_vertices-found.ensures (c.requires.1) (c.requires.0)) (found_upper (words_of c.args.plan.now) c.args.edges c.args.noted.now c.args.r _ c.extreme_vertices-found.ensures (c.requires.1) (c.requires.0)) (omega arith)

pub returns-else-decided_region-r : goal.returns-else-decided_region-r
returns-else-decided_region-r c = λ a. meets_other _ _ _ _ a (λ e. c.if-decided_region-r.false (c.decided_region.ensures ∙ e))
