use mathlib.Core.Path.{refl}
use Rattle.graph_division.specs.Calls.{refuse}
use Rattle.record_calls.proofs.refuse.Goals as goal

pub returns : goal.returns
unfolding refuse
returns c = refl
