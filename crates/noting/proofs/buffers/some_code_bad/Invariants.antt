use mathlib.Core.Path.{◌≡◌}
use Rattle.base.specs.Lists.{some}
use Rattle.noting.specs.Buffers.{code_bad}
use Rattle.noting.proofs.buffers.some_code_bad.Given as goal

abbrev pub invariant-loop-code : goal.invariant-loop-code
invariant-loop-code l = (l.bad ≡ some (code_bad l.table) l.code-index)
