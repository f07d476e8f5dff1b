use Rattle.std.proofs.Common.{◌∙◌, sym, refl, arith}
use Rattle.base.proofs.Loop.{pick_yes, pick_no}
use Rattle.views.proofs.Ties.{choose_next, choose_ends}
use Rattle.views.proofs.members.best.Goals as goal
use Rattle.views.proofs.members.best.Goals.{then-is_better, else-is_better}

pub loop-x-preserved : goal.loop-x-preserved
loop-x-preserved g c =
    let l = c.loop-x in (
      l.invariant.0,
      λ t h. choose_next _ _ _ _ _ _ _ (l.invariant.1 t h) (omega arith) refl
          (elim c.if-is_better.branch [
            | then-is_better w ↦ w.a-is ∙ sym (pick_yes _ _ (sym (h _ _ _ c.is_better.ensures) ∙ w.if-is_better.true))
            | else-is_better w ↦ w.a-is ∙ sym (pick_no _ _ (sym (h _ _ _ c.is_better.ensures) ∙ w.if-is_better.false))
          ]),
    )

pub returns : goal.returns
returns g c = λ t h. choose_ends _ _ _ _ _ (c.loop-x.invariant.1 t h) (omega arith)
