use mathlib.Core.Path.{ap, ◌∙◌}
use Prim.Native.Nat.{ℕ}
use native.Mathlib.Omega.{arith}
use borrow.Author.Rules.{rules}
use Rattle.plan.specs.Words.{words_of}
use Rattle.noting.specs.Words.{capped}
use Rattle.noting.proofs.Sizes.{capped_le}
use Rattle.noting.proofs.Beginning.{fresh_is}
use Rattle.noting.proofs.fresh.Goals as goal

pub fill-requires : goal.fill-requires
fill-requires c = omega (arith, capped_le c.num_edges.result 128)

pub returns : goal.returns
returns c =
    let a = c.args in
    let n = c.num_edges in
    fresh_is (words_of a.plan.now) a.noted.now _ _ _ (c.capped-edges.ensures ∙ ap (λ (m : ℕ). capped m 128) n.ensures) c.fill.ensures c.fresh_bounds.ensures
