use Rattle.std.proofs.Common.{rules, arith, ℕ, pred, ◌≡◌, ◌∙◌, ◌+◌, ◌*◌, ap}
use Rattle.std.proofs.Math.Numerals.{sub-one}
use Rattle.base.specs.Lists.{filled}
use Rattle.base.specs.Range.{to_nat}
use Rattle.base.proofs.Loop.{iter_zero, iter_more, iter_done}
use Rattle.builder.specs.Build.{rows}
use Rattle.builder.specs.Input.{len_at, lit_at}
use Rattle.builder.proofs.build.fill_dom_lits.Goals as goal

pub loop-v-init : goal.loop-v-init
unfolding rows
loop-v-init c = iter_zero _ _

pub loop-v-preserved : goal.loop-v-preserved
unfolding rows
loop-v-preserved c =
    let l = c.loop-v in
    let f = λ (j : ℕ). to_nat (lit_at c.args.vertices.now l.v-counter j) in
    let n : c.saturating_sub-count.result ≡ pred (len_at c.args.vertices.now l.v-counter) = simp (← sub-one) (cc) in
    iter_more _ _ _ _ _ l.invariant (c.fill.ensures f (λ i x h p. search rules) ∙ ap (λ (k : ℕ). filled (2184 + 32 * l.v-counter) k f l.plan) n)

pub returns : goal.returns
unfolding rows
returns c = iter_done _ _ _ _ _ c.loop-v.invariant (omega arith) (omega arith)
