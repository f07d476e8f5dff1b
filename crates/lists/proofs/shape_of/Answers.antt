use mathlib.Core.Path.{ap₂}
use Prim.Native.Nat.{ℕ}
use Rattle.walks.specs.declared.Shape.{Shape}
use Rattle.lists.proofs.shape_of.Goals as goal

pub returns : goal.returns
returns c = ap₂ (λ (x : ℕ) (y : ℕ). let z : Shape = record { num_vertices = x; num_edges = y; first_lit = 0 } in z) c.num_vertices.ensures c.num_edges.ensures
