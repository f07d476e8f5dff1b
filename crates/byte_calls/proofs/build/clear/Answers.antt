use native.Mathlib.Omega.{arith}
use mathlib.Core.Path.{◌∙◌, ap}
use Rattle.byte_calls.specs.Stores.{cleared}
use Rattle.byte_calls.proofs.Filling.{zeros_put}
use Rattle.byte_calls.proofs.build.clear.Goals as goal

pub returns : goal.returns
unfolding cleared
returns c = zeros_put 62756 70684 c.args.state.now _ (omega arith) _ (omega arith) (c.fill.ensures.after (λ y e. e))
