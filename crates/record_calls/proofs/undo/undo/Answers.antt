use Rattle.std.proofs.Common.{◌≡◌, ℕ, length, List, ◌∙◌, ap}
use lib.ListN.{replicate, length-replicate}
use mir.Facts.{to_z-of_z}
use Rattle.base.specs.Iter.{pick}
use Rattle.undo_log.specs.declared.Cursor.{Cursor}
use Rattle.undo_log.specs.Log.{moved_to}
use Rattle.lent_log.specs.Records.{loaded}
use Rattle.graph_division.specs.Calls.{refuse, undone}
use Rattle.record_calls.specs.Reach.{reaches}
use Rattle.record_calls.proofs.Joined.{undo_joined, undo_moved}
use Rattle.record_calls.proofs.undo.undo.Goals as goal

pub returns : goal.returns
returns c =
    let s = c.args.s in
    let d = c.args.cursor.now in
    let log = c.args.log.now in
    let r = c.undo_words-out.result in
    let blank : List ℕ = replicate 4352 0 in
    let long : length blank ≡ 4352 = length-replicate {A = ℕ} 4352 0 in
    let said : r ≡ pick (reaches s.plan s.edges.ends (length log) d) (undone s d c.args.lit (loaded log d.used blank)) (refuse 7 s d) =
    c.undo_words-out.ensures
    ∙ (λ i. pick (reaches s.plan s.edges.ends (length log) d) (undone s d (to_z-of_z c.ranges.lit i) (c.load.ensures i)) (refuse 7 s d)) in (
      said ∙ undo_joined s d log blank long c.args.lit,
      ap (λ (e : Cursor). moved_to r.cursor e.used) (c.pop_to.ensures ∙ undo_moved s d log blank long c.args.lit r said),
    )
