-- `propagation_reasons`: the reason recorded for each of the distinct literals.
use Rattle.std.specs.Prelude.{List, ℕ, ◌+◌, ◌*◌, ltb, get_or, set, replicate}
use Rattle.base.specs.Iter.{iter, pick}
use Rattle.plan.specs.Words.{variables_of}
use Rattle.noting.specs.Words.{capped}
use Rattle.reasons.specs.declared.reason.Reason.{Reason}
use Rattle.reasons.specs.declared.reason.Reason.TheVariants.{NotPropagated}
use Rattle.reasons.specs.Reason.{reason_of}
use Rattle.sweep.specs.Sweep.{proposed_at}
use Rattle.recorded.specs.declared.Recorded.{Recorded}
use Rattle.recorded.specs.declared.Reasons.{Reasons}

abbrev pub holding : Reason → Recorded
holding r = record { reason = r }

-- no reason recorded
unfoldable pub no_reasons : Reasons
no_reasons = record { at = replicate 4352 (holding NotPropagated) }

-- the reason at place p, none past the last
unfoldable pub reason_at : Reasons → ℕ → Reason
reason_at rs p = pick (ltb p 4352) (get_or rs.at p (holding NotPropagated)).reason NotPropagated

-- what stands at place p then: its reason where it is proposed, else what stood there
unfoldable pub newest : List ℕ → ℕ → Recorded → Recorded
newest words p old = pick (proposed_at words p) (holding (reason_of (get_or words (68 + 2 * p) 0) (get_or words (69 + 2 * p) 0))) old

-- what an analysis has proposed is recorded: its words at each place of the distinct literals
unfoldable pub recorded : List ℕ → List ℕ → Reasons → Reasons
recorded ws words rs = record { at = iter (λ p l. set l p (newest words p (get_or l p (holding NotPropagated)))) (capped (2 * variables_of ws) 4352) rs.at }
