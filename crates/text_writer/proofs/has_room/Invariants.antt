use Rattle.std.proofs.Common.{◌≡◌, ◌+◌, length, drop}
use Rattle.text_writer.specs.Written.{tabbed}
use Rattle.text_writer.proofs.has_room.Given as goal

abbrev pub invariant-loop-n : goal.invariant-loop-n
invariant-loop-n l = l.left + length (tabbed l.numbers) ≡ l.room + length (tabbed (drop l.n-index l.numbers))
