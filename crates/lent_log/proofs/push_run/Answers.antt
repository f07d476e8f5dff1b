use Rattle.std.proofs.Common.{sym, ap, ◌∙◌, arith, ◌≡◌, get_or, ℕ, ◌+◌, ◌-◌}
use Rattle.base.proofs.Loop.{iter_zero, iter_more, iter_done}
use Rattle.undo_log.specs.Log.{record_of}
use Rattle.lent_log.specs.Records.{lent, Pushing, pushed_on, pushed_run}
use Rattle.lent_log.proofs.push_run.Goals as goal

pub loop-i-init : goal.loop-i-init
loop-i-init c = (omega arith, iter_done _ _ 0 _ _ (iter_zero _ _) (omega arith) (omega arith))

pub loop-i-preserved : goal.loop-i-preserved
loop-i-preserved c =
    let at : c.args.cursor.now.used + (c.loop-i.i - c.args.cursor.now.used) ≡ c.loop-i.i = omega arith in (
      omega arith,
      iter_done _ _ _ _ _
          (iter_more _ _ _ _ _ c.loop-i.invariant.1
          (ap (λ (x : Pushing). lent x.log x.cursor) c.push.ensures
          ∙ ap (λ r. pushed_on r (lent c.loop-i.log c.loop-i.cursor)) (c.get.ensures ∙ ap (λ (n : ℕ). record_of (get_or c.args.words.now n 0)) (sym at))))
          (omega arith) (omega arith),
    )

pub returns : goal.returns
unfolding pushed_run
returns c = iter_done _ _ _ _ _ c.loop-i.invariant.1 (omega arith) (omega arith)
