use Rattle.judge.proofs.Steps.{crowded_some, crowded_unfit}
use Rattle.judge.proofs.conflict.judge_crowded.Goals as goal

pub returns-then-compute_view : goal.returns-then-compute_view
returns-then-compute_view c = crowded_some _ _ _ _ _ _ _ _ c.compute_view.ensures c.if-compute_view.true c.separate_ranges-count.ensures c.judge_chosen.ensures

pub returns : goal.returns
returns c = crowded_unfit _ _ _ _ _ _ c.compute_view.ensures c.if-compute_view.false
