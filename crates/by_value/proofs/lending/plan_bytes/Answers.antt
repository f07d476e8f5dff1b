use mathlib.Core.Path.{◌≡◌, sym}
use Prim.Native.Nat.{ℕ}
use native.Mathlib.Omega.{arith}
use lib.ListN.{length}
use borrow.Author.Rules.{rules}
use Rattle.graph_division.proofs.Lending.{words_held}
use Rattle.by_value.proofs.lending.plan_bytes.Goals as goal

pub returns : goal.returns
returns c =
    let n : length c.args.s.plan ≡ 15241 = omega arith in
    words_held _ _ n c.bytes_of.ensures
