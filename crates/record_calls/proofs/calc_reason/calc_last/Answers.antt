use Rattle.std.proofs.Common.{◌≡◌, ℕ, length, List, ◌∙◌}
use lib.ListN.{replicate, length-replicate}
use Rattle.base.specs.Iter.{pick}
use Rattle.graph_division.specs.declared.Answer.TheVariants.{Refused}
use Rattle.graph_division.specs.Calls.{fetched, last_fetched}
use Rattle.record_calls.specs.Reach.{reaches}
use Rattle.record_calls.proofs.Joined.{last_joined}
use Rattle.record_calls.proofs.calc_reason.calc_last.Goals as goal

pub returns : goal.returns
returns c =
    let s = c.args.s in
    let d = c.args.cursor.now in
    let log = c.args.log.now in
    let blank : List ℕ = replicate 4352 0 in
    let long : length blank ≡ 4352 = length-replicate {A = ℕ} 4352 0 in
    c.calc_last_words.ensures
    ∙ (λ i. pick (reaches s.plan s.edges.ends (length log) d) (last_fetched s d (c.load.ensures i) c.args.buffer.now) (fetched (Refused 7) c.args.buffer.now))
    ∙ last_joined s d log blank long c.args.buffer.now
