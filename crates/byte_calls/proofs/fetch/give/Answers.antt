use mathlib.Core.Path.{◌≡◌, refl, sym, ap, ap₂, subst, ◌∙◌}
use Prim.Native.Nat.{ℕ, ◌≤◌, ◌<◌, ◌+◌, ◌-◌, ◌*◌, ◌/◌, ◌%◌}
use native.Mathlib.Omega.{arith}
use lib.ListN.{length, length-set, get_or, set, replicate}
use mathlib.Core.List.{List, ◌∷◌, []}
use Rattle.byte_calls.specs.Host.{too_short, back, given_in, back_of, back_by}
use Rattle.graph_division.specs.Answers.{is_refused}
use Rattle.byte_calls.specs.Codes.{answer_code, given_by}
use Rattle.byte_calls.proofs.Coding.{code_back}
use Rattle.byte_calls.specs.Stores.{put_list, put_cursor, put_noted}
use borrow.Author.Rules.{rules}
use Rattle.byte_calls.proofs.fetch.give.Goals as goal

pub returns : goal.returns
unfolding given_in
returns c = λ i. back (code_back c.args.answer _ c.code_of.ensures i) ((c.store_list.ensures ∙ ap (λ (k : ℕ). put_list c.args.out.now k c.args.buffer.now) c.given_by.ensures) i)
