use mathlib.Core.Path.{◌≡◌}
use Rattle.division.specs.Analysis.{place}
use Rattle.plan.specs.Words.{words_of, domain_of}
use Rattle.analysis.proofs.sizes_below.Given as goal

abbrev pub invariant-loop-i : goal.invariant-loop-i
invariant-loop-i l = l.k ≡ place (domain_of (words_of l.plan) l.v) l.x l.i
