use mathlib.Core.Path.{◌≡◌, sym, ap, ◌∙◌}
use Prim.Native.Nat.{ℕ}
use native.Mathlib.Omega.{arith}
use native.Mathlib.Nat.{zero-add}
use lib.ListN.{set, replicate}
use Rattle.base.specs.Lists.{filled}
use Rattle.base.proofs.Loop.{iter_zero, iter_more}
use Rattle.plan.specs.Words.{words_of, edge_lit_of}
use Rattle.noting.specs.Words.{capped}
use Rattle.lists.specs.Parts.{edge_lits}
use Rattle.lists.proofs.Spans.{capped_min}
use Rattle.lists.proofs.edge_lits.Goals as goal

pub loop-g-init : goal.loop-g-init
unfolding filled
loop-g-init c = iter_zero _ _

pub loop-g-preserved : goal.loop-g-preserved
unfolding filled
loop-g-preserved c =
    let l = c.loop-g in
    iter_more _ _ _ _ _ l.invariant (λ j. set l.lits (sym (zero-add l.g) j) (c.edge_lit.ensures j))

pub returns : goal.returns
unfolding edge_lits
returns c =
    let l = c.loop-g in
    let n : l.g ≡ c.min-n.result = omega arith in
    l.invariant ∙ ap (λ (k : ℕ). filled 0 k (edge_lit_of (words_of c.args.plan.now)) (replicate 128 0))
    (n ∙ (c.min-n.ensures ∙ (capped_min _ 128 ∙ ap (λ (m : ℕ). capped m 128) c.num_edges.ensures)))
