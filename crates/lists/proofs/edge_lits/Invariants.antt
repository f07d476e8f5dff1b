use mathlib.Core.Path.{◌≡◌}
use Rattle.base.specs.Lists.{filled}
use Rattle.plan.specs.Words.{words_of, edge_lit_of}
use Rattle.lists.proofs.edge_lits.Given as goal

abbrev pub invariant-loop-g : goal.invariant-loop-g
invariant-loop-g l = l.lits ≡ filled 0 l.g (edge_lit_of (words_of l.plan)) l.initial.lits
