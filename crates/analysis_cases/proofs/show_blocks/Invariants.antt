use Rattle.std.proofs.Common.{◌-◌, length}
use Rattle.analysis_cases.proofs.show_blocks.Given as goal

abbrev pub decreases-loop-at : goal.decreases-loop-at
decreases-loop-at g l = length l.input - l.at
