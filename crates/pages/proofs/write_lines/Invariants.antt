use Rattle.pages.specs.Lines.{figures_of}
use Rattle.pages.proofs.Fields.{Lined}
use Rattle.pages.proofs.write_lines.Given as goal

abbrev pub invariant-loop-r : goal.invariant-loop-r
invariant-loop-r l = Lined (figures_of l.labels l.weights l.lowers l.uppers) l.n l.initial.page l.page l.at l.r
