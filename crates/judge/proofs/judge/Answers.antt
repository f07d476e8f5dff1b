use mathlib.Core.Path.{ap, ◌∙◌}
use Rattle.analysis.specs.Analyze.{analyze_words}
use Rattle.judge.specs.Judge.{with_words}
use Rattle.judge.proofs.Steps.{judge_some, judge_short}
use Rattle.judge.proofs.judge.Goals as goal

pub returns-then-has_room : goal.returns-then-has_room
unfolding with_words
returns-then-has_room c = judge_some _ _ _ _ _ _ _ c.has_room.ensures _ _ _ c.if-has_room.true (c.analyze-found.ensures ∙ ap (analyze_words _ _ _ _) c.clear.ensures) c.judge_found.ensures

pub returns : goal.returns
returns c = judge_short _ _ _ _ _ _ _ c.has_room.ensures _ c.if-has_room.false
