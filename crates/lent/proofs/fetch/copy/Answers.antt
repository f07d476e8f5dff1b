use mathlib.Core.Path.{◌≡◌, ap, ◌∙◌}
use Prim.Native.Nat.{ℕ}
use native.Mathlib.Omega.{arith}
use borrow.Author.Rules.{rules}
use Rattle.base.proofs.Loop.{iter_zero, iter_more, iter_done}
use Rattle.plan.specs.Words.{word}
use Rattle.walks.specs.Written.{Out, out_of, pushed}
use Rattle.walks.proofs.Written.{written_tab}
use Rattle.lent.proofs.fetch.copy.Goals as goal

pub loop-i-init : goal.loop-i-init
loop-i-init c = iter_zero _ _

pub loop-i-preserved : goal.loop-i-preserved
loop-i-preserved c =
    let e : c.unwrap_or.result ≡ word c.args.list.now c.loop-i.i = search rules in
    iter_more _ _ _ _ _ c.loop-i.invariant (c.push-at.ensures ∙ ap (λ (x : ℕ). pushed x (out_of c.loop-i.buffer c.loop-i.at)) e)

pub returns : goal.returns
returns c = ap (λ (o : Out). o.text) (iter_done _ _ _ _ _ c.loop-i.invariant (omega arith) (omega arith) ∙ written_tab _ _ _)
