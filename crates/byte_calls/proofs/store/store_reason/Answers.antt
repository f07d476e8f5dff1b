use mathlib.Core.Path.{sym, ap, ◌∙◌}
use Prim.Native.Nat.{ℕ, ◌+◌, ◌*◌}
use native.Mathlib.Omega.{arith}
use lib.ListN.{length, get_or}
use Rattle.base.specs.Bytes.{put_long}
use Rattle.base.proofs.Bytes.{put_long_length}
use Rattle.base.proofs.Loop.{pick_yes, pick_no}
use Rattle.byte_calls.specs.Stores.{put_reason}
use borrow.Author.Rules.{rules}
use Rattle.byte_calls.proofs.store.store_reason.Goals as goal

pub put_long-requires-then-proposed : goal.put_long-requires-then-proposed
put_long-requires-then-proposed c = omega (arith, ap (length {A = ℕ}) c.put_long.ensures, put_long_length (63808 + 16 * c.args.p) (get_or {A = ℕ} c.args.proposals.now (68 + 2 * c.args.p) 0) c.args.state.now)

pub returns-then-proposed : goal.returns-then-proposed
unfolding put_reason
returns-then-proposed c = c.put_long-then-proposed.ensures ∙ (ap (put_long _ _) c.put_long.ensures ∙ sym (pick_yes _ _ (sym c.proposed.ensures ∙ c.if-proposed.true)))

pub returns-else-proposed : goal.returns-else-proposed
unfolding put_reason
returns-else-proposed c = sym (pick_no _ _ (sym c.proposed.ensures ∙ c.if-proposed.false))
