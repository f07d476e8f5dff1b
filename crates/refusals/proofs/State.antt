-- What passes 7's test of the state has log, cursor and noted words that noting gives; and with a proper plan such a state passes.
use mathlib.Core.Path.{◌≡◌}
use mathlib.Core.Bool.{false}
use mathlib.Core.List.{List}
use Prim.Native.Nat.{ℕ}
use lib.ListN.{length}
use borrow.Author.Tests.{le-ltb}
use Rattle.base.proofs.Tests.{or_none, or_both}
use Rattle.base.proofs.Some.{some_all}
use Rattle.undo_log.specs.declared.Cursor.{Cursor}
use Rattle.plan.specs.Words.{variables_of, variable_at}
use Rattle.plan.specs.Check.{counts_bad, plan_bad, variable_high, variables_high}
use Rattle.plan.specs.Proper.{ProperWords}
use Rattle.plan.proofs.Passes.{passes}
use Rattle.noting.specs.Note.{noting}
use Rattle.noting.specs.Replay.{log_bad}
use Rattle.noting.specs.Buffers.{log_short}
use Rattle.noting.specs.Good.{GoodLog}
use Rattle.refusals.specs.Refusals.{state_bad}

-- a proper plan's counts are within their limits, and its variables in range
module _ (ws : List ℕ) (ends : List (List ℕ)) (p : ProperWords ws ends) where
  few_counts : counts_bad ws ≡ false
  unfolding plan_bad
  few_counts = (or_none (counts_bad ws) _ (passes ws ends p)).0

  pub none_high : variables_high ws ≡ false
  unfolding variables_high variable_high
  none_high = some_all (variable_high ws) (variables_of ws) (λ k h. le-ltb 4095 (variable_at ws k) (p.listed k h).range)

module _ (ws : List ℕ) (ends : List (List ℕ)) (noted log : List ℕ) (c : Cursor) where
  pub tests : state_bad ws ends noted log c ≡ false → (counts_bad ws ≡ false) × (log_short ws (length log) ≡ false) × (log_bad ws noted log c ≡ false)
  unfolding state_bad
  tests e =
      let (a, f) = or_none (counts_bad ws) _ e in
      let (b, g) = or_none (log_short ws (length log)) (log_bad ws noted log c) f in
      (a, b, g)

  pub good_state : state_bad ws ends noted log c ≡ false → length noted ≡ 384 → GoodLog ws (noting noted log c)
  good_state e len = record { words = len; passes = (tests e).2; long = (tests e).1 }

  pub valid_good : ProperWords ws ends → GoodLog ws (noting noted log c) → state_bad ws ends noted log c ≡ false
  unfolding state_bad
  valid_good p v = or_both (few_counts ws ends p) (or_both v.long v.passes)
