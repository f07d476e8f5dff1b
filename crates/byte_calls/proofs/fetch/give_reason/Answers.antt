use mathlib.Core.Path.{◌≡◌, refl, sym, ap, ap₂, subst, ◌∙◌}
use Prim.Native.Nat.{ℕ, ◌≤◌, ◌<◌, ◌+◌, ◌-◌, ◌*◌, ◌/◌, ◌%◌}
use native.Mathlib.Omega.{arith}
use lib.ListN.{length, length-set, get_or, set, replicate}
use mathlib.Core.List.{List, ◌∷◌, []}
use Rattle.byte_calls.specs.Layout.{ends_at, ends_in, state_in, plan_in, reasons_in, reason_in, reason_word_in, cursor_in, log_in, buffer_in}
use Rattle.base.specs.Bytes.{words_in}
use Rattle.byte_calls.proofs.Undoing.{undo_left, undo_kept, state_same, state_stored, undo_back, given_back}
use Rattle.byte_calls.specs.Host.{too_short, back, given_in, back_of, back_by}
use Rattle.graph_division.specs.Calls.{Fetched, fetched, giving, reason_fetched, last_fetched}
use mir.Facts.{to_z-of_z}
use borrow.Author.Rules.{rules}
use Rattle.byte_calls.proofs.fetch.give_reason.Goals as goal

pub give-requires : goal.give-requires
give-requires c = omega (arith, c.out-1.given, c.requires.3)

pub returns : goal.returns
returns c = given_back _ _ _ _ (c.give.ensures ∙ ap (λ (y : Fetched). given_in y c.args.buffer.now) (c.find_reason-answer.ensures ∙ (λ i. reason_fetched (state_in c.args.state.now) c.args.before c.args.records.now (to_z-of_z c.ranges.lit i) c.args.out.now)))
