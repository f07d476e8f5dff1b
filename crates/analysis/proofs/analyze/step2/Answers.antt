use mathlib.Core.Path.{ap, ◌∙◌}
use mathlib.Core.List.{[]}
use Prim.Native.Nat.{ℕ}
use Rattle.base.specs.Iter.{iter}
use Rattle.division.specs.Analysis.{uncrossed, overfull, raises, guarded}
use Rattle.reasons.specs.Verdicts.{begun, ran_of}
use Rattle.analysis.specs.Placed.{words, on}
use Rattle.analysis.proofs.Chain.{step2_crossed, step2_over, step2_done}
use Rattle.analysis.proofs.Pass.{ran_left}
use Rattle.plan.specs.Words.{words_of}
use Rattle.analysis.proofs.analyze.step2.Goals as goal

pub returns-in_err-check_crossed : goal.returns-in_err-check_crossed
unfolding uncrossed overfull raises
returns-in_err-check_crossed c = ran_left _ _ _ _ _ c.from_residual.ensures.1 (step2_crossed _ _ _ _ [] [] _ (c.in_err-check_crossed.ensures c.args.proposals.now))

pub returns-in_err-check_overfull : goal.returns-in_err-check_overfull
unfolding uncrossed overfull raises
returns-in_err-check_overfull c =
    let a = c.args in
    let p = a.proposals.now in
    let w = words (words_of a.plan.now) a.edges a.noted.now a.view.now in
    ran_left _ _ _ _ _ c.from_residual-in_err-check_overfull.ensures.1
    (step2_over _ _ _ _ [] [] _
    (c.in_ok-check_crossed.ensures p)
    (c.in_err-check_overfull.ensures p ∙ ap (λ (n : ℕ). ran_of (iter (guarded (on overfull w)) n begun) p) c.num_vertices.ensures))

pub returns : goal.returns
unfolding uncrossed overfull raises
returns c =
    let a = c.args in
    let p = a.proposals.now in
    let w = words (words_of a.plan.now) a.edges a.noted.now a.view.now in
    step2_done _ _ _ _ _ _ _
    (c.in_ok-check_crossed.ensures p)
    (c.in_ok-check_overfull.ensures p ∙ ap (λ (n : ℕ). ran_of (iter (guarded (on overfull w)) n begun) p) c.num_vertices.ensures)
    c.raise_lower_bounds.ensures
    c.disconnect_too_large.ensures
