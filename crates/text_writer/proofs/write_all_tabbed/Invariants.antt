use Rattle.text_writer.proofs.Putting.{Run}
use Rattle.text_writer.proofs.write_all_tabbed.Given as goal

abbrev pub invariant-loop-n : goal.invariant-loop-n
invariant-loop-n l = Run l.numbers l.initial.buf l.at l.buf l.p l.n-index
