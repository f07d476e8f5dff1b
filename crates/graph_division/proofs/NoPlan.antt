-- Memory that was never built, and a refused build's state, are no plan.
use mathlib.Core.Path.{◌≡◌, sym, subst}
use mathlib.Core.Bool.{Bool, true}
use mathlib.Core.List.{List}
use Prim.Native.Nat.{ℕ}
use lib.IntN.{ℤ}
use native.Mathlib.Omega.{arith}
use lib.ListN.{replicate, get_or-replicate}
use Rattle.base.proofs.Loop.{pick_yes, tested}
use Rattle.base.proofs.Tests.{or_yes}
use Rattle.undo_log.specs.declared.Cursor.{Cursor}
use Rattle.plan.specs.Words.{mark_of, built_mark}
use Rattle.plan.specs.Check.{counts_bad}
use Rattle.plan.proofs.Passed.{sized}
use Rattle.std.specs.Prelude.{None}
use Rattle.base.proofs.Numbered.{none_with_0}
use Rattle.builder.specs.Input.{refusal}
use Rattle.builder.proofs.Unbuilt.{refused_zeros}
use Rattle.refusals.specs.Refusals.{state_bad, table_state_bad, initialize_refusal, propagate_refusal, undo_refusal, fetch_refusal}
use Rattle.graph_division.specs.New.{built}
use Rattle.graph_division.specs.NoPlan.{NoPlan}

module _ (ws : List ℕ) (bad : counts_bad ws ≡ true) where
  state : (ends : List (List ℕ)) (noted log : List ℕ) (c : Cursor) → state_bad ws ends noted log c ≡ true
  unfolding state_bad
  state ends noted log c = sym (or_yes _ bad)

  table : (ends : List (List ℕ)) (noted t : List ℕ) (n : ℕ) (log : List ℕ) (c : Cursor) → table_state_bad ws ends noted t n log c ≡ true
  unfolding table_state_bad
  table ends noted t n log c = sym (or_yes _ (state ends noted log c))

  -- words that fail the test of the counts, whatever the edge table
  pub bad_no_plan : NoPlan ws
  unfolding initialize_refusal propagate_refusal undo_refusal fetch_refusal
  bad_no_plan = record {
    initialize = λ ends noted t n log c i. pick_yes _ _ (table ends noted t n log c);
    propagate = λ ends noted t n log c l. pick_yes _ _ (table ends noted t n log c);
    undo = λ ends noted log c l. pick_yes _ _ (state ends noted log c);
    fetch = λ ends noted n log c. pick_yes _ _ (sym (or_yes _ (state ends noted log c)));
    page = state;
  }

-- words without the mark of a plan that was built are no plan
pub unmarked_no_plan : (ws : List ℕ) → (mark_of ws ≡ built_mark → ⊥) → NoPlan ws
unmarked_no_plan ws none = bad_no_plan ws (tested (counts_bad ws) (λ t. t) (λ f. absurd (none (sized ws f).mark)))

-- memory that was never built, all zeros, is no plan
pub zeros_no_plan : NoPlan (replicate 15241 0)
zeros_no_plan =
    let z : mark_of (replicate 15241 0) ≡ 0 = get_or-replicate 15241 6 0 0 (omega arith) in
    unmarked_no_plan (replicate 15241 0) (λ (e : mark_of (replicate 15241 0) ≡ built_mark). omega arith)

-- a refused build's state is no plan
pub refused_no_plan : (vs : List ℤ) (n : ℕ) (es : List ℤ) (m : ℕ) (a b : Bool) → ((built vs n es m a b).refusal ≡ None → ⊥) → NoPlan (built vs n es m a b).state.plan
unfolding built
refused_no_plan vs n es m a b r = subst NoPlan (sym (refused_zeros vs n es m a b (λ (z : refusal vs n es m ≡ 0). r (none_with_0 _ z)))) zeros_no_plan
