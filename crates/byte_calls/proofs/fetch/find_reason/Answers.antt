use mathlib.Core.Path.{ap, ◌∙◌}
use mir.Facts.{to_z-of_z}
use Rattle.refusals.specs.Refusals.{lit_number}
use Rattle.lent.specs.Lent.{reason_fetched_by}
use Rattle.lent.proofs.Parting.{of_recorded}
use Rattle.byte_calls.specs.Layout.{state_in}
use Rattle.byte_calls.proofs.Leaving.{plan_here, parts_in}
use Rattle.byte_calls.proofs.Fetching.{reason_is}
use borrow.Author.Rules.{rules}
use Rattle.byte_calls.proofs.fetch.find_reason.Goals as goal

pub returns : goal.returns
returns c =
    let a = c.args in
    let p = c.requires in
    let z = to_z-of_z c.ranges.lit in
    let r = reason_is a.state.now _ _ _ _ _ a.lit _ (plan_here a.state.now p.0) (c.lit_number.ensures ∙ ap lit_number z) c.place_of-p.ensures c.reason_word-first.ensures c.reason_word-second.ensures c.reason_of-reason.ensures in
    c.calc_reason.ensures (state_in a.state.now) (parts_in a.state.now (plan_here a.state.now p.0) p.1 p.2)
    ∙ ((λ i. reason_fetched_by (state_in a.state.now) a.before a.records.now (z i) (r i) a.out.now)
    ∙ of_recorded (state_in a.state.now) a.before a.records.now a.lit a.out.now)
