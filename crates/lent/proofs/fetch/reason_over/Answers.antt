use mathlib.Core.Path.{ap₂}
use Prim.Native.Nat.{ℕ, ◌+◌, ◌*◌}
use lib.Dec.{ltb}
use Rattle.graph_division.specs.Calls.{reason_over}
use borrow.Author.Rules.{rules}
use Rattle.lent.proofs.fetch.reason_over.Goals as goal

pub returns : goal.returns
unfolding reason_over
returns c = ap₂ (λ (a b : ℕ). ltb (a + 2 * b + 4) c.args.n) c.num_edges.ensures c.num_vertices.ensures
