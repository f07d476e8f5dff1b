use Rattle.std.proofs.Common.{◌≡◌, ℕ, length, List, ◌∙◌}
use lib.ListN.{replicate, length-replicate}
use mir.Facts.{to_z-of_z}
use Rattle.base.specs.Iter.{pick}
use Rattle.graph_division.specs.declared.Answer.TheVariants.{Refused}
use Rattle.graph_division.specs.Calls.{fetched, reason_fetched}
use Rattle.record_calls.specs.Reach.{reaches}
use Rattle.record_calls.proofs.Joined.{reason_joined}
use Rattle.record_calls.proofs.calc_reason.calc_reason.Goals as goal

pub returns : goal.returns
returns c =
    let s = c.args.s in
    let d = c.args.cursor.now in
    let log = c.args.log.now in
    let blank : List ℕ = replicate 4352 0 in
    let long : length blank ≡ 4352 = length-replicate {A = ℕ} 4352 0 in
    c.calc_reason_words.ensures
    ∙ (λ i. pick (reaches s.plan s.edges.ends (length log) d) (reason_fetched s d (c.load.ensures i) (to_z-of_z c.ranges.lit i) c.args.buffer.now) (fetched (Refused 7) c.args.buffer.now))
    ∙ reason_joined s d log blank long c.args.lit c.args.buffer.now
