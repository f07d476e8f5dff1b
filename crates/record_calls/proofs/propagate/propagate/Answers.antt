use Rattle.std.proofs.Common.{◌≡◌, map, ℕ, length, List, ◌∙◌, ap, arith}
use lib.ListN.{replicate, length-replicate}
use mir.Facts.{to_z-of_z}
use Rattle.base.specs.Iter.{pick}
use Rattle.undo_log.specs.declared.Cursor.{Cursor}
use Rattle.undo_log.specs.Log.{word_of, moved_to}
use Rattle.lent_log.specs.Records.{loaded, Lent}
use Rattle.graph_division.specs.Calls.{refuse, called, propagated}
use Rattle.record_calls.specs.Reach.{reaches}
use Rattle.record_calls.proofs.Joined.{propagate_joined, propagate_moved}
use Rattle.record_calls.proofs.propagate.propagate.Goals as goal

pub returns : goal.returns
returns c =
    let s = c.args.s in
    let d = c.args.cursor.now in
    let log = c.args.log.now in
    let r = c.propagate_words-out.result in
    let blank : List ℕ = replicate 4352 0 in
    let long : length blank ≡ 4352 = length-replicate {A = ℕ} 4352 0 in
    let n : length c.args.s.noted ≡ 384 = omega arith in
    let said : called r c.propagate_words-out.new.table c.propagate_words-out.new.list c.propagate_words-out.new.words ≡ pick (reaches s.plan s.edges.ends (length log) d) (propagated s d c.args.lit c.args.num_pending_propagations c.args.table.now c.args.list.now (loaded log d.used blank)) (called (refuse 7 s d) c.args.table.now c.args.list.now (loaded log d.used blank)) =
    c.propagate_words-out.ensures.after
    ∙ (λ i. pick (reaches s.plan s.edges.ends (length log) d) (propagated s d (to_z-of_z c.ranges.lit i) (to_z-of_z c.ranges.num_pending_propagations i) c.args.table.now c.args.list.now (c.load.ensures i)) (called (refuse 7 s d) c.args.table.now c.args.list.now (c.load.ensures i))) in (
      ap (λ (l : Lent). called r c.propagate_words-out.new.table c.propagate_words-out.new.list (map word_of l.log)) c.push_run.ensures
          ∙ propagate_joined s d log blank long n c.args.table.now c.args.list.now r c.propagate_words-out.new.table c.propagate_words-out.new.list c.propagate_words-out.new.words c.args.lit c.args.num_pending_propagations said c.propagate_words-out.ensures.words_fit,
      ap (λ (e : Cursor). moved_to r.cursor e.used)
          (ap (λ (l : Lent). l.cursor) c.push_run.ensures ∙ propagate_moved s d log blank long n c.args.table.now c.args.list.now r c.propagate_words-out.new.table c.propagate_words-out.new.list c.propagate_words-out.new.words c.args.lit c.args.num_pending_propagations said),
    )
