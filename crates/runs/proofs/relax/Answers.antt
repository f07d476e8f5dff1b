use mathlib.Core.Bool.{true}
use Rattle.graph.specs.Search.{graph}
use Prim.Native.Nat.{◌+◌}
use mathlib.Core.Path.{refl, ◌∙◌}
use native.Mathlib.Omega.{arith}
use Rattle.runs.specs.Run.{is_undecided}
use Rattle.runs.proofs.Small.{one_of}
use Rattle.runs.proofs.Eased.{relaxed_yes, relaxed_no, from_unseen, new, compared, changed}
use Rattle.runs.proofs.relax.Goals as goal
use Rattle.runs.proofs.relax.Goals.{then-far-p-ne1-via-then-far-p-ne1, then-far-p-ne1-via-else-far-p-ne1+then-is_less}

pub returns-then-far-r-ne1 : goal.returns-then-far-r-ne1
returns-then-far-r-ne1 c =
    let a = c.args in
    let e = graph a.edges.now a.state.now true in
    (relaxed_no e a.g a.p a.r a.far.now (from_unseen e a.g a.p a.r a.far.now c.if-far-r-ne1.true), λ _. refl)

pub overflow_add-a : goal.overflow_add-a
overflow_add-a c = omega (arith, one_of _ _ c.count_undecided.ensures, c.requires.3.all c.args.r)

pub overflow_add-b-2 : goal.overflow_add-b-2
overflow_add-b-2 c = omega (arith, c.requires.3.all (64 + c.args.r))

pub returns-then-far-p-ne1 : goal.returns-then-far-p-ne1
unfolding is_undecided
returns-then-far-p-ne1 c =
    let a = c.args in
    let e = graph a.edges.now a.state.now true in
    let k = c.count_undecided.ensures in
    elim c.then-far-p-ne1.branch [
      | then-far-p-ne1-via-then-far-p-ne1 w ↦
          let t = new e a.g a.p a.r a.far.now c.if-far-r-ne1.false w.if-far-p-ne1.true in
          (relaxed_yes e a.g a.p a.r a.far.now _ _ _ t k refl c.store.ensures, changed)
      | then-far-p-ne1-via-else-far-p-ne1+then-is_less w ↦
          let n = compared e a.g a.p a.r a.far.now _ _ _ c.if-far-r-ne1.false w.if-far-p-ne1.false k refl w.is_less.ensures in
          (relaxed_yes e a.g a.p a.r a.far.now _ _ _ (n ∙ w.if-is_less.true) k refl c.store.ensures, changed)
    ]

pub returns : goal.returns
unfolding is_undecided
returns c =
    let a = c.args in
    let e = graph a.edges.now a.state.now true in
    let k = c.count_undecided.ensures in
    let n = compared e a.g a.p a.r a.far.now _ _ _ c.if-far-r-ne1.false c.if-far-p-ne1.false k refl c.is_less.ensures in
    (relaxed_no e a.g a.p a.r a.far.now (n ∙ c.if-is_less.false), λ _. refl)
