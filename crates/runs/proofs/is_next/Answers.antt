use Rattle.std.proofs.Common.{arith, sym, ◌∙◌}
use mathlib.Core.Bool.{true, true≢false}
use borrow.Author.Tests.{eq-eqb, eqb-true}
use Rattle.graph.specs.Search.{graph}
use Rattle.runs.specs.Run.{is_undecided}
use Rattle.runs.proofs.Small.{one_of}
use Rattle.runs.proofs.Next.{by_unseen, by_other, by_length}
use Rattle.runs.proofs.is_next.Goals as goal
use Rattle.runs.proofs.is_next.Goals.{then-far-r-eq1, else-far-r-eq1}

pub overflow_add-count_undecided : goal.overflow_add-count_undecided
overflow_add-count_undecided c = omega (arith, one_of _ _ c.count_undecided.ensures, c.requires.3.all c.args.r)

pub returns-then-far-p : goal.returns-then-far-p
unfolding is_undecided
returns-then-far-p c =
    let a = c.args in
    let e = graph a.edges.now a.state.now true in
    elim c.if-far-r-eq1.branch [
      | then-far-r-eq1 w ↦ by_length e a.far.now a.g a.p a.r _ w.if-far-r-eq1.true w.count_undecided.ensures (eqb-true _ _ (sym w.value-is ∙ c.if-far-p.true))
      | else-far-r-eq1 w ↦ absurd (w.if-far-r-eq1.false (eqb-true _ _ (sym w.value-is ∙ c.if-far-p.true)))
    ]

pub returns-else-far-p : goal.returns-else-far-p
unfolding is_undecided
returns-else-far-p c =
    let a = c.args in
    let e = graph a.edges.now a.state.now true in
    elim c.if-far-r-eq1.branch [
      | then-far-r-eq1 w ↦
          c.if-far-p.false ∙ by_other e a.far.now a.g a.p a.r _ w.if-far-r-eq1.true w.count_undecided.ensures
          (λ h. true≢false (sym (eq-eqb _ _ h) ∙ sym w.value-is ∙ c.if-far-p.false))
      | else-far-r-eq1 w ↦ c.if-far-p.false ∙ by_unseen e a.far.now a.g a.p a.r w.if-far-r-eq1.false
    ]
