use Rattle.std.proofs.Common.{◌≡◌}
use Rattle.builder.specs.Build.{rows}
use Rattle.builder.specs.Input.{len_at, size_at}
use Rattle.base.specs.Range.{to_nat}
use Rattle.builder.proofs.build.fill_domains.Given as goal

abbrev pub invariant-loop-v : goal.invariant-loop-v
invariant-loop-v l = l.plan ≡ rows 136 (len_at l.vertices) (λ v j. to_nat (size_at l.vertices v j)) l.v-counter l.initial.plan
