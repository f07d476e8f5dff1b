use mathlib.Core.Path.{◌≡◌}
use mathlib.Core.Bool.{true, false}
use Rattle.base.specs.Iter.{iter}
use Rattle.graph.specs.Search.{graph}
use Rattle.runs.specs.Rounds.{relaxed_edge}
use Rattle.runs.proofs.relax_all.Given as goal

abbrev pub invariant-loop-g : goal.invariant-loop-g
invariant-loop-g l = (l.far ≡ iter (relaxed_edge (graph l.edges l.state true)) l.g l.initial.far) × (l.nearer ≡ false → l.far ≡ l.initial.far)
