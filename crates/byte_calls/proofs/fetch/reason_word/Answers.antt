use mathlib.Core.Path.{◌≡◌, refl, sym, ap, ap₂, subst, ◌∙◌}
use Prim.Native.Nat.{ℕ, ◌≤◌, ◌<◌, ◌+◌, ◌-◌, ◌*◌, ◌/◌, ◌%◌}
use native.Mathlib.Omega.{arith}
use lib.ListN.{length, length-set, get_or, set, replicate}
use mathlib.Core.List.{List, ◌∷◌, []}
use Rattle.byte_calls.specs.Layout.{ends_at, ends_in, state_in, plan_in, reasons_in, reason_in, reason_word_in, cursor_in, log_in, buffer_in}
use Rattle.base.specs.Bytes.{words_in}
use borrow.Author.Tests.{lt-ltb, le-ltb, eq-eqb, ne_eqb}
use Rattle.base.proofs.Loop.{pick_yes, pick_no}
use borrow.Author.Rules.{rules}
use Rattle.byte_calls.proofs.fetch.reason_word.Goals as goal

pub returns-then-p-lt4352 : goal.returns-then-p-lt4352
unfolding reason_word_in
returns-then-p-lt4352 c = c.long_at.ensures ∙ sym (pick_yes _ _ (lt-ltb _ _ c.if-p-lt4352.true))

pub returns : goal.returns
unfolding reason_word_in
returns c = sym (pick_no _ _ (le-ltb _ _ c.if-p-lt4352.false))
