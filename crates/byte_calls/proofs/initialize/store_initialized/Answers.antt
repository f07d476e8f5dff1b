use mathlib.Core.Path.{◌≡◌, refl, sym, ap, ◌∙◌}
use mathlib.Core.Bool.{true, false, true≢false}
use Rattle.graph_division.specs.Answers.{is_consistent}
use Rattle.byte_calls.specs.Layout.{state_in}
use Rattle.byte_calls.proofs.Initializing.{mark_stored}
use Rattle.byte_calls.proofs.Keeping.{kept_same, mark_kept}
use borrow.Author.Rules.{rules}
use Rattle.byte_calls.proofs.initialize.store_initialized.Goals as goal

pub returns-then-is_consistent : goal.returns-then-is_consistent
returns-then-is_consistent c =
    let a = c.args in record { state_after = λ u. ap state_in c.put_word.ensures ∙ mark_stored a.state.now c.requires; state_unchanged = (λ (u : is_consistent a.answer ≡ false). absurd (true≢false (sym (sym c.is_consistent.ensures ∙ c.if-is_consistent.true) ∙ u))); bytes_kept = mark_kept a.state.now _ c.put_word.ensures }

pub returns-else-is_consistent : goal.returns-else-is_consistent
returns-else-is_consistent c =
    record { state_after = λ (u : is_consistent c.args.answer ≡ true). absurd (true≢false (sym u ∙ (sym c.is_consistent.ensures ∙ c.if-is_consistent.false))); state_unchanged = λ u. refl; bytes_kept = kept_same _ }
