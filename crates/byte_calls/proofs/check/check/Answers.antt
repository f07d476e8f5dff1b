use mathlib.Core.Path.{sym, ◌∙◌}
use borrow.Author.Tests.{lt-ltb, le-ltb}
use Rattle.base.proofs.Loop.{pick_yes, pick_no}
use Rattle.byte_calls.specs.Check.{check_code}
use Rattle.byte_calls.proofs.check.check.Goals as goal
use Rattle.byte_calls.proofs.check.check.Goals.{then-state-lt133440-via-then-state-lt133440, then-state-lt133440-via-else-state-lt133440+then-plan_bad}

pub returns-then-state-lt133440 : goal.returns-then-state-lt133440
unfolding check_code
returns-then-state-lt133440 c = elim c.then-state-lt133440.branch [
  | then-state-lt133440-via-then-state-lt133440 w ↦ sym (pick_yes _ _ (lt-ltb _ _ w.if-state-lt133440.true))
  | then-state-lt133440-via-else-state-lt133440+then-plan_bad w ↦
      sym (pick_no _ _ (le-ltb _ _ w.if-state-lt133440.false) ∙ pick_yes _ _ (sym w.plan_bad.ensures ∙ w.if-plan_bad.true))
]

pub returns : goal.returns
unfolding check_code
returns c = sym (pick_no _ _ (le-ltb _ _ c.if-state-lt133440.false) ∙ pick_no _ _ (sym c.plan_bad.ensures ∙ c.if-plan_bad.false))
