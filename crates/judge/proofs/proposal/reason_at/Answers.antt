use mathlib.Core.Path.{ap₂, ◌∙◌}
use Rattle.reasons.specs.Reason.{reason_of}
use Rattle.judge.proofs.proposal.reason_at.Goals as goal

pub returns : goal.returns
returns c = c.reason_of.ensures ∙ ap₂ reason_of c.word.ensures c.word-2.ensures
