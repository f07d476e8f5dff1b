use mathlib.Core.Path.{ap, ◌∙◌}
use Prim.Native.Nat.{ℕ}
use Rattle.base.specs.Bytes.{put_halves}
use Rattle.byte_calls.specs.Stores.{put_list}
use Rattle.byte_calls.proofs.Filling.{capped_min}
use Rattle.byte_calls.proofs.store.store_list.Goals as goal

pub returns : goal.returns
unfolding put_list
returns c = c.write_halves.ensures ∙ ap (λ (k : ℕ). put_halves c.args.list.now k c.args.bytes.now) (capped_min _ _ _ c.min.ensures)
