use mathlib.Core.Path.{sym, ◌∙◌}
use Rattle.division.specs.Plan.{across}
use Rattle.division.specs.Analysis.{forks}
use Rattle.analysis.proofs.Forks.{same_are}
use Rattle.analysis.proofs.step5.same_size.Goals as goal

pub returns-then-forks : goal.returns-then-forks
unfolding across forks
returns-then-forks c = same_are _ _ _ _ _ _ _ _ _ _ (sym c.forks.ensures ∙ c.if-forks.true) c.region_across-a.ensures c.region_across-b.ensures c.decided_weight.ensures c.one_size.ensures
