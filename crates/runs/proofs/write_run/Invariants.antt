use mathlib.Core.Bool.{true}
use Rattle.graph.specs.Search.{graph}
use Rattle.runs.specs.Rounds.{far_of}
use Rattle.runs.proofs.Next.{Going}
use Rattle.runs.proofs.write_run.Given as goal

abbrev pub invariant-loop : goal.invariant-loop
invariant-loop l = Going (graph l.edges l.state true) l.num_edges l.n (far_of l.far) l.from l.initial.buffer l.buffer l.at l.p l.counter
