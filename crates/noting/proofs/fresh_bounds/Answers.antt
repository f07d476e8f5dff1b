use mathlib.Core.Path.{ap, ◌∙◌}
use Prim.Native.Nat.{ℕ}
use native.Mathlib.Omega.{arith}
use borrow.Author.Rules.{rules}
use Rattle.plan.specs.Words.{words_of}
use Rattle.noting.specs.Words.{capped}
use Rattle.noting.proofs.Sizes.{capped_le}
use Rattle.noting.proofs.Beginning.{bounds_are}
use Rattle.noting.proofs.fresh_bounds.Goals as goal

pub fill_sizes-requires : goal.fill_sizes-requires
fill_sizes-requires c = omega (arith, capped_le c.num_vertices.result 64)

pub fill-requires : goal.fill-requires
fill-requires c = omega (arith, capped_le c.num_vertices.result 64)

pub fill-requires-2 : goal.fill-requires-2
fill-requires-2 c = omega (arith, capped_le c.num_vertices.result 64)

pub returns : goal.returns
returns c =
    let a = c.args in
    let n = c.num_vertices in
    bounds_are (words_of a.plan.now) a.noted.now _ _ _ _ (c.capped-vertices.ensures ∙ ap (λ (m : ℕ). capped m 64) n.ensures) c.fill_sizes.ensures c.fill.ensures c.fill-2.ensures
