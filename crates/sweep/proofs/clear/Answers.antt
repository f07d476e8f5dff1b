use Rattle.std.proofs.Common.{arith, refl, sym, ap, ◌∙◌, ◌≡◌, ◌++◌, ◌≤◌, ◌<◌, ℕ, List, length, take, drop}
use Rattle.base.proofs.Filled.{all_filled, filled_with}
use Rattle.sweep.specs.Sweep.{cleared}
use Rattle.sweep.proofs.Loops.{filled_all}
use lib.Seq.{length-take-le}
use mathlib.Core.Logic.{⊎_elim}
use Rattle.base.specs.Lists.{filled}
use Rattle.base.proofs.Tests.{le_or_lt}
use Rattle.sweep.proofs.clear.Goals as goal

pub returns : goal.returns
unfolding cleared
returns c =
    let l = c.args.proposals.now in
    let n = c.min-n.result in
    let t : length (take n l) ≡ n = length-take-le n l (omega (arith, c.min-n.ensures)) in
    ap (λ (x : List ℕ). x ++ drop n l) (all_filled 0 n _ (c.fill.ensures.len ∙ t) (λ j h. c.fill.ensures.clones j 0 (omega arith) refl))
    ∙ sym (filled_with 0 n l (omega (arith, c.min-n.ensures)))
    ∙ ⊎_elim
    (λ (h : length l ≤ 68). sym (filled_all (λ i. 0) l n 68 (omega (arith, c.min-n.ensures)) (omega (arith, c.min-n.ensures))))
    (λ (h : 68 < length l). let e : n ≡ 68 = omega (arith, c.min-n.ensures) in ap (λ (j : ℕ). filled 0 j (λ i. 0) l) e)
    (le_or_lt (length l) 68)
