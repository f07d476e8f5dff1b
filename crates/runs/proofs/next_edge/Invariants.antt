use mathlib.Core.Bool.{true}
use mathlib.Core.Path.{◌≡◌}
use Rattle.graph.specs.Search.{graph}
use Rattle.division.specs.Regions.{lowest}
use Rattle.runs.specs.Rounds.{far_of}
use Rattle.runs.specs.Walk.{onward}
use Rattle.runs.proofs.next_edge.Given as goal

abbrev pub invariant-loop-g : goal.invariant-loop-g
invariant-loop-g l = (lowest (onward (graph l.edges l.state true) (far_of l.far) l.p) l.g ≡ l.g)
