use mathlib.Core.Path.{◌≡◌}
use mathlib.Core.Bool.{true}
use Rattle.graph.specs.Search.{graph}
use Rattle.runs.proofs.Eased.{rounds_of}
use Rattle.runs.proofs.measure.Given as goal

abbrev pub invariant-loop : goal.invariant-loop
invariant-loop l = (l.far ≡ rounds_of (graph l.edges l.state true) l.num_edges l.to l.counter)
