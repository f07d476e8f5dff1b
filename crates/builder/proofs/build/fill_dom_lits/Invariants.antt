use Rattle.std.proofs.Common.{◌≡◌, pred}
use Rattle.builder.specs.Build.{rows}
use Rattle.builder.specs.Input.{len_at, lit_at}
use Rattle.base.specs.Range.{to_nat}
use Rattle.builder.proofs.build.fill_dom_lits.Given as goal

abbrev pub invariant-loop-v : goal.invariant-loop-v
invariant-loop-v l = l.plan ≡ rows 2184 (λ v. pred (len_at l.vertices v)) (λ v j. to_nat (lit_at l.vertices v j)) l.v-counter l.initial.plan
