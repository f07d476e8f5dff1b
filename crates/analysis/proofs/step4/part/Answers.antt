use Rattle.views.specs.Words.{upper_bound_of, lower_bound_of}
use mathlib.Core.Path.{sym, ap₂, ◌∙◌}
use native.Mathlib.Omega.{arith}
use Prim.Native.Nat.{ℕ}
use borrow.Author.Tests.{lt-ltb, le-ltb}
use Rattle.base.proofs.Loop.{pick_yes, pick_no}
use Rattle.reasons.specs.Words.{packed, put}
use Rattle.analysis.proofs.step4.part.Goals as goal

pub returns-then-region_upper_bound-region_lower_bound : goal.returns-then-region_upper_bound-region_lower_bound
returns-then-region_upper_bound-region_lower_bound c =
    c.put.ensures
    ∙ (ap₂ (λ (p x : ℕ). put p x 0 c.args.proposals.now) c.edge_place.ensures (c.packed.ensures ∙ ap₂ (λ (i j : ℕ). packed 6 c.args.g i j c.args.flip) c.region_upper_bound_idx-a.ensures c.region_lower_bound_idx-b.ensures)
    ∙ sym (pick_yes _ _ (lt-ltb (upper_bound_of c.args.view.now c.args.up) (lower_bound_of c.args.view.now c.args.low) (omega arith))))

pub returns-else-region_upper_bound-region_lower_bound : goal.returns-else-region_upper_bound-region_lower_bound
returns-else-region_upper_bound-region_lower_bound c = sym (pick_no _ _ (le-ltb (upper_bound_of c.args.view.now c.args.up) (lower_bound_of c.args.view.now c.args.low) (omega arith)))
