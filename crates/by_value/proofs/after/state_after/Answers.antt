use mathlib.Core.Path.{◌≡◌, sym, ap, ◌∙◌}
use mathlib.Core.Bool.{true, false}
use Rattle.base.proofs.Loop.{pick_yes, pick_no}
use mathlib.Core.List.{List}
use Prim.Native.Nat.{ℕ}
use Rattle.recorded.specs.declared.Reasons.{Reasons}
use Rattle.recorded.specs.Recorded.{recorded}
use Rattle.graph_division.specs.Calls.{with_noted, with_judged}
use Rattle.lent.specs.Lent.{state_after}
use borrow.Author.Rules.{rules}
use Rattle.by_value.proofs.after.state_after.Goals as goal

pub returns-then-done : goal.returns-then-done
unfolding state_after with_judged
returns-then-done c =
    let a = c.args in
    let h : a.done.judged ≡ true = cc in
    ap (λ (rs : Reasons). record { plan = a.s.plan; edges = a.s.edges; noted = a.noted; reasons = rs; last = a.left; last_len = a.done.len; initialized = a.s.initialized }) (c.record.ensures ∙ ap (λ (ws : List ℕ). recorded ws a.proposals.now a.s.reasons) c.plan_bytes.ensures)
    ∙ sym (pick_yes _ _ h)

pub returns : goal.returns
unfolding state_after with_noted
returns c =
    let a = c.args in
    let h : a.done.judged ≡ false = cc in
    sym (pick_no _ _ h)
