use Rattle.std.proofs.Common.{◌≡◌}
use Rattle.base.specs.Iter.{iter}
use Rattle.builder.specs.Build.{edge_step}
use Rattle.builder.proofs.build.edge_table.Given as goal

abbrev pub invariant-loop-g : goal.invariant-loop-g
invariant-loop-g l = l.table ≡ iter (edge_step l.edges) l.g l.initial.table
