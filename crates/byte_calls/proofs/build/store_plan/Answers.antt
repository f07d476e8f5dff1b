use mathlib.Core.Path.{◌≡◌, refl, sym, ap, ap₂, subst, ◌∙◌}
use Prim.Native.Nat.{ℕ, ◌≤◌, ◌<◌, ◌+◌, ◌-◌, ◌*◌, ◌/◌, ◌%◌}
use native.Mathlib.Omega.{arith}
use lib.ListN.{length, length-set, get_or, set, replicate}
use mathlib.Core.List.{List, ◌∷◌, []}
use Rattle.base.specs.Bytes.{word_at}
use Rattle.byte_calls.proofs.Building.{plan_reads}
use borrow.Author.Rules.{rules}
use Rattle.byte_calls.proofs.build.store_plan.Goals as goal

pub returns : goal.returns
returns c = (
  c.write_words.ensures,
  λ i k. ap (λ (x : List ℕ). word_at x (4 * i)) c.write_words.ensures
      ∙ plan_reads c.args.plan.now c.args.state.now (λ j. omega (arith, c.shared_slice_known-1.given j)) c.requires.0 i k,
)
